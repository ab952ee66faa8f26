-- The check of a text: what the machine does with the first line, with a line of the last line's length, and with what follows the last line. Assumes nothing.
use Rattle.std.proofs.Common.{◌≡◌, ℕ, ◌+◌, ◌%◌, ◌<◌, true, false, cond, ◌&&◌, eqb, ltb, List, length, sym, refl, ap, ◌∙◌, subst, arith, pow_pos, lt-ltb, eq-eqb, eqb-true}
use mathlib.Core.Bool.{false≢true}
use Rattle.digits.proofs.Tests.{by-test, and_true, and_l, and_r}
use Rattle.lines.specs.Lines.{Line}
use Rattle.lines.specs.Machine.{refused, next, wrong}
use Rattle.lines.specs.Filter.{passing}
use Rattle.lines.specs.Places.{line_at}
use Rattle.lines.specs.Tokens.{same}
use Rattle.lines.proofs.Tests.{by_step, not_both}
use Rattle.lines.proofs.TokenLaws.{same_is, same_itself}
use Rattle.lines.proofs.WalkLaws.{left, line_refused, line_short}
use Rattle.desk.specs.Hearing.{heard, status_in}
use Rattle.page.specs.Version.{Version, Sound}
use Rattle.page.specs.Sum.{sum_of, sum_modulus}
use Rattle.page.specs.Page.{first_line, last_line}
use Rattle.page.specs.inside.Tokens.{Token, first, seat, cell, last, middle_size, write, fits, code, last_size}
use Rattle.page.specs.inside.Machine.{Body, Reached, heading, body, over, framed, seat_taken, with_seat, heard_taken, with_cell, roomy, viable, builder, token_machine, machine}
use Rattle.page.proofs.CodeLaws.{is_code, seat_long, cell_long}
use Rattle.page.proofs.MachineLaws.{only_next, passed, at_first, first_room}

module _ (v : Version) (sound : Sound v) where
  -- ---- a line by what it scans as

  -- if its token makes the step, so does the line
  by_token : (q : Reached) (l : Line) (k : Token) → (code v).scan l ≡ next k → (machine v).step q l ≡ (token_machine v).step q k
  by_token q l k e = rw e

  by_none : (q : Reached) (l : Line) → (code v).scan l ≡ refused → (machine v).step q l ≡ refused
  by_none q l e = rw e

  -- a line that is written as a token which fits
  written_as : (q : Reached) (l : Line) (k : Token) → fits v k ≡ true → write v k ≡ l → (machine v).step q l ≡ (token_machine v).step q k
  written_as q l k f e = by_token q l k (ap (code v).scan (sym e) ∙ (is_code v sound).written k f)

  pass : (s : Reached) → viable v s ≡ true → passing (viable v) (builder v) (next s) ≡ next s
  pass s h = rw h

  -- ---- the first line

  pub first_step : (l : Line) → (machine v).step heading l ≡ cond (same (first_line v) l) (next (body (at_first v sound))) refused
  unfolding fits
  first_step l =
      by-test (same (first_line v) l)
      (λ e. rw e (written_as heading l first refl (same_is (first_line v) l e) ∙ pass (body (at_first v sound)) (first_room v sound)))
      (λ e. rw e (by_step ((code v).scan l) (by_none heading l) (λ k s. by_token heading l k s ∙ other k ((is_code v sound).scanned l k s) e)))
    where
      other : (k : Token) → l ≡ write v k → same (first_line v) l ≡ false → (token_machine v).step heading k ≡ refused
      other first w e = absurd (false≢true (sym e ∙ ap (same (first_line v)) w ∙ same_itself (first_line v)))
      other (seat i k n) w e = refl
      other (cell i bytes) w e = refl
      other (last n t) w e = refl

  -- ---- a line of the last line's length

  only_last : (a : Body) (l : Line) (k : Token) → length l ≡ last_size v → l ≡ write v k → fits v k ≡ true → same (last_line a.count (a.sum % sum_modulus)) l ≡ false → (token_machine v).step (body a) k ≡ refused
  unfolding fits
  only_last a l first n w f e = refl
  only_last a l (seat i k d) n w f e = absurd (let h = ap length w ∙ seat_long v sound i k d in let s = sound.some in omega arith)
  only_last a l (cell i bytes) n w f e =
      let x = ltb i v.seats in
      let y = eqb (length bytes) middle_size in
      let long = eqb-true (length bytes) middle_size (and_r x y (and_l (x && y) _ f)) in
      absurd (let h = ap length w ∙ cell_long v sound i bytes long in let s = sound.some in omega arith)
  only_last a l (last c t) n w f e =
      by-test (eqb c a.count && eqb t (a.sum % sum_modulus))
      (λ h. let ec = eqb-true c a.count (and_l (eqb c a.count) (eqb t (a.sum % sum_modulus)) h) in
      let et = eqb-true t (a.sum % sum_modulus) (and_r (eqb c a.count) (eqb t (a.sum % sum_modulus)) h) in
      let is : l ≡ last_line a.count (a.sum % sum_modulus) = w ∙ (λ i. last_line (ec i) (et i)) in
      absurd (false≢true (sym e ∙ ap (same (last_line a.count (a.sum % sum_modulus))) is ∙ same_itself (last_line a.count (a.sum % sum_modulus)))))
      (λ h. rw h)

  pub last_step : (a : Body) (l : Line) → length l ≡ last_size v → a.count < 10000 → roomy v a ≡ true
      → (machine v).step (body a) l ≡ cond (same (last_line a.count (a.sum % sum_modulus)) l && eqb a.waiting 0) (next (over a)) refused
  unfolding fits
  last_step a l n small room =
      let sum = a.sum % sum_modulus in
      let fine : fits v (last a.count sum) ≡ true = and_true (lt-ltb a.count 10000 small) (lt-ltb sum 100000 (omega arith)) in
      by-test (same (last_line a.count sum) l)
      (λ e. rw e (written_as (body a) l (last a.count sum) fine (same_is (last_line a.count sum) l e) ∙ rw (eq-eqb a.count a.count refl, eq-eqb sum sum refl) (by-test (eqb a.waiting 0) (λ z. rw (z, room)) (λ z. rw z))))
      (λ e. rw e (by_step ((code v).scan l) (by_none (body a) l) (λ k s. by_token (body a) l k s ∙ only_last a l k n ((is_code v sound).scanned l k s) ((is_code v sound).scanned_fits l k s) e)))

  -- ---- nothing follows the last line

  over_step : (a : Body) (l : Line) → (machine v).step (over a) l ≡ refused
  over_step a l = by_step ((code v).scan l) (by_none (over a) l) (λ k s. by_token (over a) l k s)

  pub over_more : (t : List ℕ) (a : Body) (n at : ℕ) → at < length t → left (machine v) t (over a) n at ≡ wrong (n + 1)
  over_more t a n at h =
      by-test (line_at t at).whole
      (λ w. line_refused (machine v) t at (line_at t at) refl (over a) n w (over_step a _))
      (λ w. line_short (machine v) t at (line_at t at) refl (over a) n h w)

  -- ---- each line that is taken is one more seat or one more cell

  more : (a c b : Body) → body c ≡ body b → a.bits + a.count < c.bits + c.count → a.bits + a.count < b.bits + b.count
  more a c b e h = let same : c ≡ b = cc in subst (λ (x : Body). a.bits + a.count < x.bits + x.count) same h

  grows : (a b : Body) (k : Token) → (token_machine v).step (body a) k ≡ next (body b) → a.bits + a.count < b.bits + b.count
  grows a b first e = absurd (not_both refused (body b) (passed v sound refused (body b) e).0 refl)
  grows a b (seat i k n) e =
      let x = only_next (seat_taken a i k) (body (with_seat a i k n (sum_of (write v (seat i k n))))) (body b) (passed v sound ((builder v).step (body a) (seat i k n)) (body b) e).0 in
      let p = pow_pos i in
      more a (with_seat a i k n (sum_of (write v (seat i k n)))) b x.1 (omega arith)
  grows a b (cell i bytes) e =
      let c = with_cell a i (status_in (heard (framed bytes))) (sum_of (write v (cell i bytes))) in
      let x = only_next (heard_taken a i (heard (framed bytes))) (body c) (body b) (passed v sound ((builder v).step (body a) (cell i bytes)) (body b) e).0 in
      more a c b x.1 (omega arith)
  grows a b (last n t) e =
      let x = only_next (eqb n a.count && eqb t (a.sum % sum_modulus) && eqb a.waiting 0) (over a) (body b) (passed v sound ((builder v).step (body a) (last n t)) (body b) e).0 in
      let z = x.1 in
      absurd (let y : ◌≡◌ {A = ℕ} 0 1 = cc in omega arith)

  pub line_grows : (a b : Body) (l : Line) → (machine v).step (body a) l ≡ next (body b) → a.bits + a.count < b.bits + b.count
  line_grows a b l e =
      by_step ((code v).scan l)
      (λ s. absurd (not_both ((machine v).step (body a) l) (body b) e (by_none (body a) l s)))
      (λ k s. grows a b k (sym (by_token (body a) l k s) ∙ e))
