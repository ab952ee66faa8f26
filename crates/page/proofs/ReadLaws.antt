-- The check of a text, line by line: what the machine still has to say after each line is what the code says. Assumes nothing.
use Rattle.std.proofs.Common.{◌≡◌, ℕ, zero, suc, ◌+◌, ◌-◌, ◌%◌, ◌<◌, ◌≤◌, Bool, true, false, cond, not, ◌&&◌, eqb, List, [], ◌∷◌, ◌++◌, length, take, drop, replicate, sym, refl, ap, ◌∙◌, subst, add-one, arith, take-append-drop, take-take, le-leb}
use Rattle.std.specs.Cmp.Lexicographic.{pointwise}
use lib.Seq.{slice, length-slice}
use Rattle.lines.specs.declared.Place.{Place}
use Rattle.lines.specs.Lines.{Line, lines_of}
use Rattle.lines.specs.Machine.{refused, next, gives, wrong, verdict}
use Rattle.lines.specs.Places.{first_place, line_at}
use Rattle.lines.specs.Tokens.{same}
use Rattle.lines.proofs.PlaceLaws.{Next}
use Rattle.lines.proofs.TokenLaws.{same_is}
use Rattle.lines.proofs.WalkLaws.{left, left_start, next_at, line_taken, line_refused, line_short, over_final, over_short}
use Rattle.desk.specs.declared.state.Seat.{Seat}
use Rattle.desk.specs.Limits.{seat_count}
use Rattle.desk.specs.Seats.{zero_seat}
use Rattle.desk.specs.Calls.{empty_row}
use Rattle.page.specs.declared.sofar.Sofar.{Sofar}
use Rattle.page.specs.Version.{one}
use Rattle.page.specs.Sum.{sum_of, sum_modulus}
use Rattle.page.specs.Page.{first_line, last_line}
use Rattle.page.specs.inside.Machine.{Body, heading, body, over, roomy, machine}
use Rattle.page.specs.inside.Taking.{state_of, turned, Taken}
use Rattle.page.specs.inside.Checking.{left_from, read_to, is_last, AtLast}
use Rattle.page.proofs.VersionLaws.{one_shows_all}
use Rattle.page.proofs.PartLaws.{part_is}
use Rattle.page.proofs.SameLaws.{same_by}
use Rattle.page.proofs.TokenLaws.{sum_append}
use Rattle.page.proofs.MachineLaws.{at_first}
use Rattle.page.proofs.CheckLaws.{first_step, last_step, over_more, line_grows}

-- ---- sums

-- the bytes up to the end of a line are those before it and its own
sum_on : (t : List ℕ) (at e : ℕ) → at ≤ e → sum_of (take e t) ≡ sum_of (take at t) + sum_of (slice at e t)
sum_on t at e l =
    let split : take at t ++ slice at e t ≡ take e t = ap (λ (x : List ℕ). x ++ slice at e t) (sym (take-take at e t l)) ∙ take-append-drop at (take e t) in
    ap sum_of (sym split) ∙ sum_append (take at t) (slice at e t)

-- the code's test of a last line
pub last_by : (t : List ℕ) (at : ℕ) (s : Sofar) (x : Bool) (w : List ℕ) (sum : ℕ) → x ≡ same w (take (at + 11 - at) (drop at t)) → w ≡ last_line s.count sum → sum ≡ sum_of (take (at - 0) (drop 0 t)) % sum_modulus → x && eqb s.waiting 0 ≡ is_last t at s
unfolding is_last
last_by t at s x w sum e p q =
    let long : at + 11 - at ≡ 11 = omega arith in
    let all : at - 0 ≡ at = omega arith in
    rw (e, p, q, long, all, part_is at 11 t)

-- the bytes of a line, as a part of the text
pub part_line : (t : List ℕ) (at e : ℕ) → at ≤ e → take (e - at) (drop at t) ≡ slice at e t
part_line t at e l = let q : at + (e - at) ≡ e = omega arith in part_is at (e - at) t ∙ ap (λ (n : ℕ). slice at n t) q

pub part_size : (t : List ℕ) (at e : ℕ) → at ≤ e → e ≤ length t → length (take (e - at) (drop at t)) ≡ e - at
part_size t at e l h = ap length (part_line t at e l) ∙ length-slice at e t h

-- the code's test of the first line
pub first_by : (t : List ℕ) (e : ℕ) (w : List ℕ) (x : Bool) → w ≡ 112 ∷ 97 ∷ 103 ∷ 101 ∷ 9 ∷ 49 ∷ 10 ∷ [] → x ≡ not (pointwise eqb w (take e t)) → x ≡ not (same (first_line one) (slice 0 e t))
unfolding first_line
first_by t e w x p q = q ∙ ap not (ap (λ (l : List ℕ). pointwise eqb l (take e t)) p ∙ same_by (first_line one) (take e t))

place_starts : (at : ℕ) (ls : List Line) (n : ℕ) → (first_place at ls n).start ≡ at
place_starts at [] n = refl
place_starts at (l ∷ ls) n = refl

line_starts : (t : List ℕ) (at : ℕ) → (line_at t at).start ≡ at
unfolding line_at
line_starts t at = place_starts at (lines_of (drop at t)) (length (drop at t))

module _ (t : List ℕ) where
  pub line_inside : (at : ℕ) (p : Place) → p ≡ line_at t at → p.whole ≡ true → (at < p.end) × (p.end ≤ length t)
  line_inside at p is w = let x = next_at (machine one) t at p is w in (x.forward, x.inside)

  -- a line of the last line's length
  pub at_last : (at : ℕ) (p : Place) → p ≡ line_at t at → p.whole ≡ true → p.end - at ≡ 11 → line_at t at ≡ record { start = at; end = at + 11; whole = true }
  at_last at p is w e =
      let x = (line_inside at p is w).0 in
      let a : p.start ≡ at = ap (λ (q : Place). q.start) is ∙ line_starts t at in
      let b : p.end ≡ at + 11 = omega arith in
      sym is ∙ (λ i. record { start = a i; end = b i; whole = w i })

  -- ---- the first line

  module _ (p : Place) (is : p ≡ line_at t 0) where
    pub first_wrong : p.whole ≡ true → same (first_line one) (slice 0 p.end t) ≡ false → wrong 1 ≡ verdict (machine one) t
    first_wrong w e =
        sym (left_start (machine one) t ∙ line_refused (machine one) t 0 p is heading 0 w (first_step one one_shows_all.sound (slice 0 p.end t) ∙ rw e))

    first_taken : p.whole ≡ true → same (first_line one) (slice 0 p.end t) ≡ true
        → verdict (machine one) t ≡ left_from t (body (record { row = empty_row; bits = 0; count = 0; said = 0; waiting = 0; sum = sum_of (take p.end t) })) 1 p.end
    first_taken w e =
        let sum : sum_of (first_line one) ≡ sum_of (take p.end t) = ap sum_of (same_is (first_line one) (slice 0 p.end t) e) in
        left_start (machine one) t
        ∙ line_taken (machine one) t 0 p is heading (body (at_first one one_shows_all.sound)) 0 w (first_step one one_shows_all.sound (slice 0 p.end t) ∙ rw e)
        ∙ ap (λ (n : ℕ). left_from t (body (record { row = empty_row; bits = 0; count = 0; said = 0; waiting = 0; sum = n })) 1 p.end) sum

    pub first_on : p.whole ≡ true → same (first_line one) (slice 0 p.end t) ≡ true → (z : Seat) → z ≡ zero_seat
        → verdict (machine one) t ≡ left_from t (body (record { row = replicate seat_count z; bits = 0; count = 0; said = 0; waiting = 0; sum = sum_of (take p.end t) })) 1 p.end
    first_on w e z q =
        first_taken w e
        ∙ ap (λ (x : Seat). left_from t (body (record { row = replicate seat_count x; bits = 0; count = 0; said = 0; waiting = 0; sum = sum_of (take p.end t) })) 1 p.end) (sym q)

    pub first_short : p.whole ≡ false → wrong 1 ≡ verdict (machine one) t
    first_short w = sym (left_start (machine one) t ∙ short (length t) refl)
      where
        short : (n : ℕ) → length t ≡ n → left (machine one) t heading 0 0 ≡ wrong 1
        short zero z = over_short (machine one) t heading 0 0 (omega arith) refl
        short (suc n) z = line_short (machine one) t 0 p is heading 0 (omega arith) w

  -- ---- a line that is neither the first nor the last

  module _ (at : ℕ) (p : Place) (is : p ≡ line_at t at) (w : p.whole ≡ true) (s : Sofar) (n : ℕ) where
    pub here : Next t at p
    here = next_at (machine one) t at p is w

    module _ (l : Line) (q : l ≡ slice at p.end t) (r : Bool) (s' : Sofar) (k : Taken s l r s') where
      step_is : (machine one).step (read_to t at s) (slice at p.end t) ≡ turned (sum_of (take at t)) (slice at p.end t) r s'
      step_is = subst (λ (x : Line). (machine one).step (read_to t at s) x ≡ turned (sum_of (take at t)) x r s') q (sym (k.steps (sum_of (take at t))))

      pub line_on : r ≡ true → left_from t (read_to t at s) n at ≡ left_from t (read_to t p.end s') (n + 1) p.end
      line_on e =
          let b = here.forward in
          let sums = sum_on t at p.end (omega arith) in
          line_taken (machine one) t at p is (read_to t at s) (body (state_of s' (sum_of (take at t) + sum_of (slice at p.end t)))) n w (step_is ∙ rw e)
          ∙ ap (λ (x : ℕ). left_from t (body (state_of s' x)) (n + 1) p.end) (sym sums)

      pub line_off : r ≡ false → wrong (n + 1) ≡ left_from t (read_to t at s) n at
      line_off e = sym (line_refused (machine one) t at p is (read_to t at s) n w (step_is ∙ rw e))

      pub line_more : r ≡ true → s.bits + s.count < s'.bits + s'.count
      line_more e =
          line_grows one one_shows_all.sound (state_of s (sum_of (take at t))) (state_of s' (sum_of (take at t) + sum_of (slice at p.end t)))
          (slice at p.end t) (step_is ∙ rw e)

  pub text_short : (at : ℕ) (p : Place) → p ≡ line_at t at → (s : Sofar) (n : ℕ) → at < length t → p.whole ≡ false → wrong (n + 1) ≡ left_from t (read_to t at s) n at
  text_short at p is s n h w = sym (line_short (machine one) t at p is (read_to t at s) n h w)

  pub text_ends : (at : ℕ) (s : Sofar) (n : ℕ) → length t ≤ at → wrong (n + 1) ≡ left_from t (read_to t at s) n at
  text_ends at s n h = sym (over_short (machine one) t (read_to t at s) n at h refl)

  -- ---- the last line

  module _ (at n : ℕ) (s : Sofar) (h : AtLast t at n) where
    abbrev last_place : Place
    last_place = record { start = at; end = at + 11; whole = true }

    last_here : Next t at last_place
    last_here = next_at (machine one) t at last_place (sym h.line) refl

    pub last_inside : at + 11 ≤ length t
    last_inside = last_here.inside

    abbrev so_far : Body
    so_far = state_of s (sum_of (take at t))

    last_is : (machine one).step (body so_far) (slice at (at + 11) t) ≡ cond (is_last t at s) (next (over so_far)) refused
    unfolding is_last roomy
    last_is =
        let r = s.roomy in
        last_step one one_shows_all.sound so_far (slice at (at + 11) t) (length-slice at (at + 11) t last_inside ∙ omega arith) (omega arith) (le-leb (s.count + s.waiting) 256 r)

    module _ (k : ℕ) (e : n ≡ suc k) where
      pub last_wrong : is_last t at s ≡ false → wrong n ≡ left_from t (read_to t at s) k at
      last_wrong f = rw (e, ← add-one k) (sym (line_refused (machine one) t at last_place (sym h.line) (body so_far) k refl (last_is ∙ rw f)))

      last_on : is_last t at s ≡ true → left_from t (read_to t at s) k at ≡ left (machine one) t (over so_far) (k + 1) (at + 11)
      last_on f = line_taken (machine one) t at last_place (sym h.line) (body so_far) (over so_far) k refl (last_is ∙ rw f)

      pub last_more : is_last t at s ≡ true → at + 11 < length t → wrong (n + 1) ≡ left_from t (read_to t at s) k at
      last_more f l = rw (e, ← add-one k) (sym (last_on f ∙ over_more one one_shows_all.sound t so_far (k + 1) (at + 11) l))

      pub last_good : is_last t at s ≡ true → length t ≤ at + 11 → gives (record { row = s.row; bits = s.bits; count = s.count }) ≡ left_from t (read_to t at s) k at
      last_good f l = sym (last_on f ∙ over_final (machine one) t (over so_far) (k + 1) (at + 11) l refl)
