-- The code takes a line as the machine does. Assumes nothing.
use Rattle.std.proofs.Common.{None, unwrap_or, subst, ◌≡◌, ℕ, ◌+◌, ◌-◌, ◌*◌, ◌/◌, ◌%◌, ◌^◌, ◌<◌, ◌≤◌, Bool, true, false, ◌&&◌, eqb, ltb, leb, List, [], ◌∷◌, ◌++◌, length, get_or, take, set, sym, refl, ap, ◌∙◌, mul-le-mul_right, arith, length-append, get_or-set_other, get_or-set_same, take_at, shl_exact, lt-ltb, eq-eqb, ne_eqb, eqb-true, leb-true}
use mathlib.Core.Bool.{false≢true}
use lib.Seq.{slice, set_out}
use borrow.Author.Tests.{lt-leb}
use Rattle.digits.specs.Told.{Told, gives, refuses}
use Rattle.digits.proofs.Tests.{by-test, by_less, and_true, and_l, and_r}
use Rattle.frames.specs.declared.reply.StaticReply.{StaticReply}
use Rattle.frames.specs.declared.reply.ReplyLabel.{ReplyLabel}
use Rattle.frames.specs.Kind.{CR, read}
use Rattle.frames.specs.Reply.{reply, is_good, label_at}
use Rattle.finder.proofs.Taken.{reply_printable}
use Rattle.lines.specs.Lines.{Line, every}
use Rattle.lines.specs.Machine.{refused, next}
use Rattle.lines.specs.Tokens.{same}
use Rattle.lines.proofs.TokenLaws.{same_is}
use Rattle.desk.specs.declared.state.Seat.{Seat}
use Rattle.desk.specs.declared.key.Key.{Key}
use Rattle.desk.specs.Limits.{seat_count}
use Rattle.desk.specs.Key.{is_key}
use Rattle.desk.specs.Hearing.{heard, ended_by}
use Rattle.desk.specs.Below as B
use Rattle.desk.specs.Seats.{zero_seat, used_bit, keyed, keyed_at, seat_with}
use Rattle.desk.proofs.Below.{never, false_or, and_false_r, eq-case, first_hit, first_past}
use Rattle.desk.proofs.Bits.{set_below, shl_one}
use Rattle.desk.proofs.ColumnLaws.{legal_keyed}
use Rattle.desk.proofs.HearingLaws.{good_heard, bad_heard}
use Rattle.page.specs.declared.sofar.Sofar.{Sofar}
use Rattle.page.specs.Version.{seat_digit, digit_seat, one, within}
use Rattle.page.specs.Sum.{sum_of}
use Rattle.page.specs.Page.{seat_line, cell_line}
use Rattle.page.specs.inside.Tokens.{Token, first, seat, cell, value_of, write, fits, guess, guess_seat, guess_cell}
use Rattle.page.specs.inside.Machine.{Body, body, framed, seat_taken, with_seat, heard_taken, with_cell, roomy, token_machine, machine}
use Rattle.page.specs.inside.Held.{HeldMost}
use Rattle.page.specs.inside.Taking.{Narrow, state_of, turned, Taken, key_shown, seat_takes, seat_turn, cell_hears, cell_takes, cell_turn}
use Rattle.page.proofs.MiddleLaws.{raw_within}
use Rattle.page.proofs.SameLaws.{around, middle_long, cell_same}

-- ---- a key

pub key_narrow : (k : Key) → is_key k ≡ true → Narrow k
key_narrow k e = let s = (legal_keyed k e).short in record { address = let h = s.address in omega arith; requester = s.requester }

-- ---- a search for a key that has reached seat i

module _ (row : List Seat) (bits : ℕ) (k : Key) (i : ℕ) (e : B.first i (keyed_at row bits k) ≡ i) where
  pub key_met : i < seat_count → keyed_at row bits k i ≡ true → false ≡ leb seat_count (seat_with row bits k)
  unfolding seat_with
  key_met l h = rw (first_hit seat_count i (keyed_at row bits k) l e h) (sym (lt-leb seat_count i l))

  pub key_new : seat_count ≤ i → true ≡ leb seat_count (seat_with row bits k)
  unfolding seat_with
  key_new l = rw (first_past seat_count i (keyed_at row bits k) l e)

-- ---- the guess goes by the length

guess_cell_law : (l : Line) → length l ≡ 52 → guess one l ≡ guess_cell one l
unfolding guess
guess_cell_law l n = rw n

guess_seat_law : (l : Line) → length l ≡ 12 → guess one l ≡ guess_seat one l
unfolding guess
guess_seat_law l n = rw n

guess_first : (l : Line) → (length l ≡ 52 → ⊥) → (length l ≡ 12 → ⊥) → (length l ≡ 11 → ⊥) → guess one l ≡ first
unfolding guess
guess_first l a b c = rw (ne_eqb (length l) 52 a, ne_eqb (length l) 12 b, ne_eqb (length l) 11 c)

-- ---- a step of the machine over lines

module _ (s : Body) (l : Line) (k : Token) (g : guess one l ≡ k) where
  unsure : fits one k && same (write one k) l ≡ false → (machine one).step (body s) l ≡ refused
  unsure e = rw (g, e)

  sure_step : fits one k ≡ true → same (write one k) l ≡ true → (machine one).step (body s) l ≡ (token_machine one).step (body s) k
  sure_step f e = rw (g, f, e)

  -- a token that is refused is refused on every line
  step_refused : (token_machine one).step (body s) k ≡ refused → (machine one).step (body s) l ≡ refused
  step_refused r = by-test (fits one k && same (write one k) l) (λ e. rw (g, e) r) unsure

-- ---- a line that is not taken

not_taken_law : (s : Sofar) (l : Line) → ((sum : ℕ) → (machine one).step (body (state_of s sum)) l ≡ refused) → Taken s l false s
not_taken_law s l r = record { steps = λ sum. sym (r sum); stays = λ e. refl }

pub other_line : (s : Sofar) (l : Line) → (length l ≡ 52 → ⊥) → (length l ≡ 12 → ⊥) → (length l ≡ 11 → ⊥) → Taken s l false s
other_line s l a b c = not_taken_law s l (λ sum. step_refused (state_of s sum) l first (guess_first l a b c) refl)

-- ---- one seat changes

pub set_held : (row : List Seat) (i : ℕ) (x : Seat) (n : ℕ) → x.held ≤ n → HeldMost row n → HeldMost (set row i x) n
set_held row i x n a h j l =
    eq-case j i
    (λ e. by_less i (length row)
    (λ k. rw (e, get_or-set_same row i x zero_seat k) a)
    (λ k. rw (set_out row i x k) (h j l)))
    (λ d. rw (get_or-set_other row i j x zero_seat d) (h j l))

-- ---- a line of a seat

module _ (s : Sofar) (i : ℕ) (k : Key) (ended : ℕ) where
  -- what is kept of the sum is no matter
  seat_after : (s' : Sofar) (sum n : ℕ) → state_of s' 0 ≡ with_seat (state_of s 0) i k ended 0 → state_of s' (sum + n) ≡ with_seat (state_of s sum) i k ended n
  seat_after s' sum n e = ap (λ (b : Body). record b { sum = sum + n }) e

  seat_steps : (l : Line) → seat_line one i k ended ≡ l → (t : Bool) (s' : Sofar) → t ≡ seat_takes s i k ended → state_of s' 0 ≡ seat_turn s i k ended
      → (sum : ℕ) → turned sum l t s' ≡ (token_machine one).step (body (state_of s sum)) (seat i k ended)
  unfolding seat_takes seat_taken roomy
  seat_steps l w t s' p q sum =
      by-test (seat_taken (state_of s 0) i k)
      (λ e. by-test (leb (s.count + (s.waiting + ended)) one.cells)
      (λ f. rw (p, e, f, w) (ap (λ (b : Body). next (body b)) (seat_after s' sum (sum_of l) (rw (e, f) at q))))
      (λ f. rw (p, e, f)))
      (λ e. rw (p, e))

  pub seat_test : {new : Bool} → new ≡ leb seat_count (seat_with s.row s.bits k)
      → eqb s.count 0 && eqb (s.bits / 2 ^ i) 0 && new && leb (s.count + (s.waiting + ended)) one.cells ≡ seat_takes s i k ended
  unfolding seat_takes seat_taken
  seat_test e = rw e

  -- the seats from i on are clear
  seat_clear : seat_takes s i k ended ≡ true → s.bits / 2 ^ i ≡ 0
  unfolding seat_takes seat_taken
  seat_clear e =
      let t = and_l (seat_taken (state_of s 0) i k) (leb (s.count + (s.waiting + ended)) one.cells) e in
      let u = and_l (eqb s.count 0 && eqb (s.bits / 2 ^ i) 0) _ t in
      eqb-true (s.bits / 2 ^ i) 0 (and_r (eqb s.count 0) (eqb (s.bits / 2 ^ i) 0) u)

  -- the seat's bits, added
  pub record Adds : Type 0 where
    pub bits : s.bits + 2 ^ i < 2 ^ seat_count
    pub said : s.said + ended * 2 ^ i ≤ s.bits + 2 ^ i
    pub one_shifted : 1 * 2 ^ i % 18446744073709551616 ≡ 2 ^ i
    pub ended_shifted : ended * 2 ^ i % 18446744073709551616 ≡ ended * 2 ^ i

  pub seat_adds : i < seat_count → ended ≤ 1 → seat_takes s i k ended ≡ true → Adds
  seat_adds l m t =
      let p = s.in_use in
      let few : ended < 2 ^ 1 = omega arith in
      let most : ended * 2 ^ i ≤ 1 * 2 ^ i = mul-le-mul_right (2 ^ i) m in
      record {
        bits = set_below seat_count s.bits i s.seated l (ap (λ (x : ℕ). eqb (x % 2) 1) (seat_clear t));
        said = omega arith;
        one_shifted = shl_one i (omega arith);
        ended_shifted = shl_exact 1 i 64 few (omega arith);
      }

  pub seat_roomy : seat_takes s i k ended ≡ true → s.count + (s.waiting + ended) ≤ one.cells
  unfolding seat_takes
  seat_roomy t = leb-true (s.count + (s.waiting + ended)) one.cells (and_r (seat_taken (state_of s 0) i k) (leb (s.count + (s.waiting + ended)) one.cells) t)

-- a byte that names no seat is not the digit of seat 0, which is guessed then
unnamed : (b : ℕ) → digit_seat b ≡ None → b ≡ 48 → ⊥
unfolding digit_seat
unnamed b n e = let h = subst (λ (x : ℕ). digit_seat x ≡ None) e n in cc

unlike_first : (x : ℕ) (w l : Line) → (get_or l 0 0 ≡ x → ⊥) → same (x ∷ w) l ≡ false
unfolding same
unlike_first x w [] h = refl
unlike_first x w (y ∷ l) h = rw (ne_eqb x y (λ e. h (sym e)))

-- what the code reads from the line is what is guessed
module _ (s : Sofar) (l : Line) (n : length l ≡ 12) (i : ℕ) (k : Key) (ended : ℕ)
    (p : i ≡ value_of (digit_seat (get_or l 0 0))) (q : k ≡ key_shown l) (r : ended ≡ get_or l 10 0 - 48) where
  is_seat : guess one l ≡ seat i k ended
  unfolding guess_seat
  is_seat = guess_seat_law l n ∙ rw (p, q, r)

  pub seat_unfit : is_key k && leb ended 1 ≡ false → Taken s l false s
  unfolding fits
  seat_unfit e =
      let both = fits one (seat i k ended) && same (seat_line one i k ended) l in
      let unsaid : both ≡ false = false_or both (λ t.
      let f = and_l (fits one (seat i k ended)) (same (seat_line one i k ended) l) t in
      let b = and_r (ltb i seat_count) (is_key k) (and_l (ltb i seat_count && is_key k) (leb ended 1) f) in
      never (is_key k && leb ended 1) (and_true b (and_r (ltb i seat_count && is_key k) (leb ended 1) f)) e) in
      not_taken_law s l (λ sum. unsure (state_of s sum) l (seat i k ended) is_seat unsaid)

  pub seat_unlike : same (seat_line one i k ended) l ≡ false → Taken s l false s
  seat_unlike e = not_taken_law s l (λ sum. unsure (state_of s sum) l (seat i k ended) is_seat (and_false_r (fits one (seat i k ended)) e))

  pub seat_unnamed : digit_seat (get_or l 0 0) ≡ None → Taken s l false s
  unfolding seat_line seat_digit
  seat_unnamed e = seat_unlike (rw (p, e, unwrap_or) (unlike_first 48 _ l (unnamed (get_or l 0 0) e)))

  pub seat_like : i < seat_count → is_key k && leb ended 1 ≡ true → same (seat_line one i k ended) l ≡ true
      → {t : Bool} {s' : Sofar} → t ≡ seat_takes s i k ended → state_of s' 0 ≡ seat_turn s i k ended → Taken s l t s'
  unfolding fits
  seat_like b f e {t} {s'} p q =
      let legal = and_l (is_key k) (leb ended 1) f in
      let few = and_r (is_key k) (leb ended 1) f in
      record {
        steps = λ sum. seat_steps s i k ended l (same_is (seat_line one i k ended) l e) t s' p q sum
            ∙ sym (sure_step (state_of s sum) l (seat i k ended) is_seat (and_true (and_true (lt-ltb i seat_count b) legal) few) e);
        stays = λ z. rw (sym p ∙ z) at q;
      }

-- ---- a line of a cell

module _ (s : Sofar) (i : ℕ) (c : ReplyLabel) where
  cell_after : (s' : Sofar) (sum n : ℕ) → state_of s' 0 ≡ with_cell (state_of s 0) i c.status 0 → state_of s' (sum + n) ≡ with_cell (state_of s sum) i c.status n
  cell_after s' sum n e = ap (λ (b : Body). record b { sum = sum + n }) e

  cell_steps : (bytes : List ℕ) → heard (framed bytes) ≡ gives c → (l : Line) → cell_line one i bytes ≡ l → (t : Bool) (s' : Sofar) → t ≡ cell_takes s i c → state_of s' 0 ≡ cell_turn s i c
      → (sum : ℕ) → turned sum l t s' ≡ (token_machine one).step (body (state_of s sum)) (cell i bytes)
  unfolding cell_hears cell_takes heard_taken keyed roomy
  cell_steps bytes h l w t s' p q sum =
      by-test (heard_taken (state_of s sum) i (gives c))
      (λ e. by-test (leb (s.count + 1 + (s.waiting - ended_by c.status)) one.cells)
      (λ f. rw (p, h, e, f, w) (ap (λ (b : Body). next (body b)) (cell_after s' sum (sum_of l) (rw (e, f) at q))))
      (λ f. rw (p, h, e, f)))
      (λ e. rw (p, h, e))

  pub cell_roomy : cell_takes s i c ≡ true → s.count + 1 + (s.waiting - ended_by c.status) ≤ one.cells
  unfolding cell_takes
  cell_roomy t =
      leb-true (s.count + 1 + (s.waiting - ended_by c.status)) one.cells (and_r (cell_hears s i c) (leb (s.count + 1 + (s.waiting - ended_by c.status)) one.cells) t)

-- a reply has no LF
before_last : (a b : List ℕ) (x : ℕ) → a ++ (x ∷ []) ≡ b ++ (x ∷ []) → a ≡ b
before_last a b x e =
    let n : length a ≡ length b = omega (arith, ap length e, length-append a (x ∷ []), length-append b (x ∷ [])) in
    sym (take_at a (x ∷ []) (length a) refl) ∙ ap (take (length a)) e ∙ take_at b (x ∷ []) (length a) (sym n)

reply_within : (bytes : List ℕ) (r : StaticReply) → read reply (framed bytes) ≡ gives r → every within bytes ≡ true
reply_within bytes r e =
    let p = reply_printable (framed bytes) r e in
    let q : bytes ++ (CR ∷ []) ≡ p.inner ++ (CR ∷ []) = cc p.is in
    rw (before_last bytes p.inner CR q) (raw_within p.inner p.raw)

good_within : (bytes : List ℕ) → is_good (read reply (framed bytes)) ≡ true → every within bytes ≡ true
good_within bytes g = go (read reply (framed bytes)) refl g
  where
    go : (t : Told StaticReply) → read reply (framed bytes) ≡ t → is_good t ≡ true → every within bytes ≡ true
    go (gives r) e h = reply_within bytes r e
    go (refuses why) e h = absurd (false≢true h)

-- a cell that is no reply is refused
unheard : (s : Body) (i : ℕ) (t : Told ReplyLabel) → ((c : ReplyLabel) → gives c ≡ t → ⊥) → heard_taken s i t ≡ false
unfolding heard_taken
unheard s i (gives c) h = absurd (h c refl)
unheard s i (refuses why) h = rw (and_false_r (used_bit s.bits i) {b = false} refl)

module _ (s : Sofar) (l : Line) (n : length l ≡ 52) (i : ℕ) (v : i ≡ value_of (digit_seat (get_or l 0 0))) where
  is_cell : guess one l ≡ cell i (slice 2 51 l)
  unfolding guess_cell
  is_cell = guess_cell_law l n ∙ rw v

  pub cell_unlike : around i l ≡ false → Taken s l false s
  cell_unlike e =
      not_taken_law s l (λ sum. unsure (state_of s sum) l (cell i (slice 2 51 l)) is_cell (and_false_r (fits one (cell i (slice 2 51 l))) (cell_same i l n ∙ e)))

  pub cell_unnamed : digit_seat (get_or l 0 0) ≡ None → Taken s l false s
  unfolding seat_digit
  cell_unnamed e = cell_unlike (rw (v, e, ne_eqb (get_or l 0 0) 48 (unnamed (get_or l 0 0) e)))

  pub cell_no_reply : is_good (read reply (framed (slice 2 51 l))) ≡ false → Taken s l false s
  cell_no_reply e =
      not_taken_law s l (λ sum. step_refused (state_of s sum) l (cell i (slice 2 51 l)) is_cell
      (rw (unheard (state_of s sum) i (heard (framed (slice 2 51 l))) (bad_heard (framed (slice 2 51 l)) e))))

  pub cell_like : i < seat_count → around i l ≡ true → is_good (read reply (framed (slice 2 51 l))) ≡ true
      → {t : Bool} {s' : Sofar} → t ≡ cell_takes s i (label_at (framed (slice 2 51 l))) → state_of s' 0 ≡ cell_turn s i (label_at (framed (slice 2 51 l))) → Taken s l t s'
  unfolding fits
  cell_like b a e {t} {s'} p q =
      let mid = slice 2 51 l in
      let h = good_heard (framed mid) e in
      let w : same (cell_line one i mid) l ≡ true = cell_same i l n ∙ a in
      let f : fits one (cell i mid) ≡ true = and_true (and_true (lt-ltb i seat_count b) (eq-eqb (length mid) 49 (middle_long l n))) (good_within mid e) in
      record {
        steps = λ sum. cell_steps s i (label_at (framed mid)) mid h l (same_is (cell_line one i mid) l w) t s' p q sum
            ∙ sym (sure_step (state_of s sum) l (cell i mid) is_cell f w);
        stays = λ z. rw (sym p ∙ z) at q;
      }
