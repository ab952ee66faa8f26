-- The tokens of a desk: a page is their lines, and they depend only on what a page shows. Assumes nothing.
use Rattle.std.proofs.Common.{◌≡◌, ℕ, zero, suc, ◌+◌, ◌%◌, ◌<◌, ◌≤◌, true, List, [], ◌∷◌, ◌++◌, map, refl, ap, ◌∙◌, ap₂, append_assoc, append-nil, arith}
use mathlib.Core.List.{map-append}
use Rattle.digits.proofs.Tests.{by-test}
use Rattle.lines.specs.Tokens.{write_all}
use Rattle.lines.proofs.LineLaws.{joined_append}
use Rattle.desk.specs.Key.{seat_key}
use Rattle.desk.specs.Seats.{seat_at, used_bit}
use Rattle.desk.specs.Memory.{Memory, cell_at, mark_at}
use Rattle.desk.proofs.Below.{below-case}
use Rattle.page.specs.Version.{Version}
use Rattle.page.specs.Sum.{sum_of, sum_modulus}
use Rattle.page.specs.Page.{first_line, seat_line, middle, cell_line, last_line, seat_lines, cell_lines, front, page}
use Rattle.page.specs.inside.Tokens.{Token, seat, cell, last, write, code, seat_tokens, cell_tokens, front_tokens, ended_at, tokens}

-- ---- sums

pub sum_append : (xs ys : List ℕ) → sum_of (xs ++ ys) ≡ sum_of xs + sum_of ys
unfolding sum_of
sum_append [] ys = omega arith
sum_append (x ∷ xs) ys = omega (arith, sum_append xs ys)

module _ (v : Version) where
  -- ---- lines of tokens

  pub write_append : (ks js : List Token) → write_all (code v) (ks ++ js) ≡ write_all (code v) ks ++ write_all (code v) js
  write_append ks js = rw map-append (joined_append (map (write v) ks) (map (write v) js))

  -- one token more
  pub write_more : (ks : List Token) (k : Token) → write_all (code v) (ks ++ (k ∷ [])) ≡ write_all (code v) ks ++ write v k
  write_more ks k = write_append ks (k ∷ []) ∙ ap (λ (l : List ℕ). write_all (code v) ks ++ l) (append-nil (write v k))

  pub sum_more : (ks : List Token) (k : Token) → sum_of (write_all (code v) (ks ++ (k ∷ []))) ≡ sum_of (write_all (code v) ks) + sum_of (write v k)
  sum_more ks k = ap sum_of (write_more ks k) ∙ sum_append (write_all (code v) ks) (write v k)

  module _ (m : Memory) where
    seat_lines_law : (n : ℕ) → write_all (code v) (seat_tokens v m (ended_at v m) n) ≡ seat_lines v m n
    unfolding seat_tokens seat_lines
    seat_lines_law zero = refl
    seat_lines_law (suc i) =
        by-test (used_bit m.bits i)
        (λ u. rw u (write_more (seat_tokens v m (ended_at v m) i) (seat i (seat_key (seat_at m.row i)) (seat_at m.row i).ended) ∙ ap (λ (l : List ℕ). l ++ seat_line v i (seat_key (seat_at m.row i)) (seat_at m.row i).ended) (seat_lines_law i)))
        (λ u. rw u (rw (append-nil, append-nil) (seat_lines_law i)))

    cell_lines_law : (n : ℕ) → write_all (code v) (cell_tokens v m n) ≡ cell_lines v m n
    unfolding cell_tokens cell_lines
    cell_lines_law zero = refl
    cell_lines_law (suc j) =
        write_more (cell_tokens v m j) (cell (mark_at m.marks j) (middle (cell_at m.cells j)))
        ∙ ap (λ (l : List ℕ). l ++ cell_line v (mark_at m.marks j) (middle (cell_at m.cells j))) (cell_lines_law j)

    pub front_tokens_law : write_all (code v) (front_tokens v m (ended_at v m)) ≡ front v m
    unfolding front_tokens front
    front_tokens_law =
        ap (λ (l : List ℕ). first_line v ++ l)
        (write_append (seat_tokens v m (ended_at v m) v.seats) (cell_tokens v m m.count) ∙ ap₂ (λ (a b : List ℕ). a ++ b) (seat_lines_law v.seats) (cell_lines_law m.count))

    pub page_tokens : write_all (code v) (tokens v m) ≡ page v m
    unfolding tokens page
    page_tokens =
        write_more (front_tokens v m (ended_at v m)) (last m.count (sum_of (front v m) % sum_modulus))
        ∙ ap (λ (l : List ℕ). l ++ last_line m.count (sum_of (front v m) % sum_modulus)) front_tokens_law

  -- ---- what the tokens depend on

  module _ (m x : Memory) where
    pub seats_same : (f g : ℕ → ℕ) (n : ℕ) → ((i : ℕ) → i < n → used_bit x.bits i ≡ used_bit m.bits i)
        → ((i : ℕ) → i < n → used_bit m.bits i ≡ true → (seat_key (seat_at x.row i) ≡ seat_key (seat_at m.row i)) × (g i ≡ f i))
        → seat_tokens v x g n ≡ seat_tokens v m f n
    unfolding seat_tokens
    seats_same f g zero b h = refl
    seats_same f g (suc i) b h =
        let more = seats_same f g i (λ j l. b j (omega arith)) (λ j l. h j (omega arith)) in
        by-test (used_bit m.bits i)
        (λ u. let q = h i (omega arith) u in rw (b i (omega arith), u, more, q.0, q.1))
        (λ u. rw (b i (omega arith), u, more))

    pub cells_same : (n : ℕ) → ((j : ℕ) → j < n → mark_at x.marks j ≡ mark_at m.marks j) → ((j : ℕ) → j < n → cell_at x.cells j ≡ cell_at m.cells j)
        → cell_tokens v x n ≡ cell_tokens v m n
    unfolding cell_tokens
    cells_same zero a b = refl
    cells_same (suc j) a b =
        let more = cells_same j (λ i l. a i (omega arith)) (λ i l. b i (omega arith)) in
        rw (a j (omega arith), b j (omega arith), more)

  -- more cells come after those before
  pub cells_on : (x : Memory) (c n : ℕ) → c ≤ n → (rest : List Token) × (cell_tokens v x n ≡ cell_tokens v x c ++ rest)
  unfolding cell_tokens
  cells_on x c zero h = let e : c ≡ 0 = omega arith in ([], rw e)
  cells_on x c (suc n) h =
      below-case c (suc n) (omega arith)
      (λ l. let r = cells_on x c n (omega arith) in
      (r.0 ++ (cell (mark_at x.marks n) (middle (cell_at x.cells n)) ∷ []), rw r.1 (append_assoc (cell_tokens v x c) r.0 _)))
      (λ e. ([], rw (e, append-nil)))
