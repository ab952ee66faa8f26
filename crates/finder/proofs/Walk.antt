-- The walk over a capture: how many pieces it makes, what they are, and where it goes on after a piece. Assumes nothing.
use Prim.Native.Nat.{ℕ, suc, ◌+◌, ◌≤◌}
use mathlib.Core.List.{List, [], ◌∷◌, ◌++◌}
use mathlib.Core.Bool.{Bool, true, false, false≢true, and-eq-true_iff}
use mathlib.Core.Path.{◌≡◌, refl, sym, ap, ◌∙◌}
use native.Mathlib.Omega.{arith}
use native.Mathlib.Nat.{le_refl}
use native.Mathlib.Numerals.{add-one}
use lib.Dec.{eqb}
use borrow.Author.Tests.{eqb-true}
use lib.ListN.{length, take, drop, length-append}
use lib.Seq.{take-add, drop-drop}
use Rattle.frames.specs.Kind.{CR}
use Rattle.finder.specs.Leads.{is_lead}
use Rattle.finder.specs.Pieces.{Piece, end_of, Place, outside, inside, walk, pieces_from}
use Rattle.finder.specs.Demands.{count, every, is_inner, is_open, Right, All, InOrder, total}

-- cases by the result of a test
pub cases : (b : Bool) {P : Type 0} → (b ≡ true → P) → (b ≡ false → P) → P
cases true t f = t refl
cases false t f = f refl

-- ---- as many pieces as lead bytes, and one more if a frame is open

opened : Place → ℕ
opened outside = 0
opened (inside a f) = 1

counted : (xs : List ℕ) (q : Place) (n : ℕ) → length (walk q n xs) ≡ opened q + count is_lead xs
unfolding walk opened
counted [] outside n = refl
counted [] (inside a f) n = refl
counted (x ∷ xs) outside n =
    cases (is_lead x)
    (λ e. rw e (counted xs (inside n (x ∷ [])) (suc n) ∙ omega arith))
    (λ e. rw e (counted xs outside (suc n)))
counted (x ∷ xs) (inside a f) n =
    cases (is_lead x)
    (λ e. rw e (ap suc (counted xs (inside n (x ∷ [])) (suc n)) ∙ omega arith))
    (λ e. rw e
    (cases (eqb x CR)
    (λ d. rw d (ap suc (counted xs outside (suc n)) ∙ omega arith))
    (λ d. rw d (counted xs (inside a (f ++ (x ∷ []))) (suc n)))))

pub frames_leads : (n : ℕ) (xs : List ℕ) → length (walk outside n xs) ≡ count is_lead xs
unfolding opened
frames_leads n xs = counted xs outside n ∙ omega arith

-- ---- each piece is right

inner_is : (b : ℕ) → is_lead b ≡ false → eqb b CR ≡ false → is_inner b ≡ true
unfolding is_inner
inner_is b e d = rw (e, d)

every_last : (p : ℕ → Bool) (xs : List ℕ) (x : ℕ) → every p xs ≡ true → p x ≡ true → every p (xs ++ (x ∷ [])) ≡ true
every_last p [] x h e = rw e
every_last p (y ∷ ys) x h e =
    let k = (and-eq-true_iff (p y) (every p ys)).0 h in
    rw k.0 (every_last p ys x k.1 e)

-- a frame stays open after an inner byte
open_last : (f : List ℕ) (x : ℕ) → is_open f ≡ true → is_inner x ≡ true → is_open (f ++ (x ∷ [])) ≡ true
unfolding is_open
open_last [] x h e = absurd (false≢true h)
open_last (y ∷ ys) x h e =
    let k = (and-eq-true_iff (is_lead y) (every is_inner ys)).0 h in
    rw k.0 (every_last is_inner ys x k.1 e)

module _ (s : List ℕ) where
  drop_tail : (n x : ℕ) (xs : List ℕ) → drop n s ≡ x ∷ xs → drop (suc n) s ≡ xs
  drop_tail n x xs h = rw (← add-one n, ← drop-drop 1 n s, h)

  -- the bytes so far of a frame that is open before place n
  record Held (a : ℕ) (f : List ℕ) (n : ℕ) : Type 0 where
    there : take (length f) (drop a s) ≡ f
    long : a + length f ≡ n
    begun : is_open f ≡ true

  abbrev Ready : Place → ℕ → Type 0
  Ready outside n = Unit {0}
  Ready (inside a f) n = Held a f n

  there_last : (a n x : ℕ) (f xs : List ℕ) → take (length f) (drop a s) ≡ f → a + length f ≡ n → drop n s ≡ x ∷ xs
      → take (length (f ++ (x ∷ []))) (drop a s) ≡ f ++ (x ∷ [])
  there_last a n x f xs t l h = rw (length-append f (x ∷ []), take-add (length f) 1 (drop a s), t, drop-drop (length f) a s, l, h)

  new : (n x : ℕ) (xs : List ℕ) → drop n s ≡ x ∷ xs → is_lead x ≡ true → Held n (x ∷ []) (suc n)
  unfolding is_open
  new n x xs h e = record { there = rw h; long = add-one n; begun = rw e }

  more : (a n x : ℕ) (f xs : List ℕ) → drop n s ≡ x ∷ xs → Held a f n → is_lead x ≡ false → eqb x CR ≡ false → Held a (f ++ (x ∷ [])) (suc n)
  more a n x f xs h r e d = record {
    there = there_last a n x f xs r.there r.long h;
    long = rw (length-append f (x ∷ [])) (omega (arith, r.long));
    begun = open_last f x r.begun (inner_is x e d);
  }

  right : (xs : List ℕ) (q : Place) (n : ℕ) → drop n s ≡ xs → Ready q n → All (Right s) (walk q n xs)
  unfolding walk
  right [] outside n h r = tt
  right [] (inside a f) n h r = ((r.there, r.begun, rw (r.long, h)), tt)
  right (x ∷ xs) outside n h r =
      cases (is_lead x)
      (λ e. rw e (right xs (inside n (x ∷ [])) (suc n) (drop_tail n x xs h) (new n x xs h e)))
      (λ e. rw e (right xs outside (suc n) (drop_tail n x xs h) tt))
  right (x ∷ xs) (inside a f) n h r =
      cases (is_lead x)
      (λ e. rw e ((r.there, r.begun, rw (r.long, h) e), right xs (inside n (x ∷ [])) (suc n) (drop_tail n x xs h) (new n x xs h e)))
      (λ e. rw e
      (cases (eqb x CR)
      (λ d. rw d
      ((there_last a n x f xs r.there r.long h, (f, r.begun, rw (eqb-true x CR d))), right xs outside (suc n) (drop_tail n x xs h) tt))
      (λ d. rw d (right xs (inside a (f ++ (x ∷ []))) (suc n) (drop_tail n x xs h) (more a n x f xs h r e d)))))

  pub pieces_right : (at : ℕ) → All (Right s) (pieces_from s at)
  unfolding pieces_from
  pieces_right at = right (drop at s) outside at refl tt

  -- ---- after a piece the walk goes on outside a frame, from where the piece ends

  abbrev pub GoesOn : List Piece → Type 0
  GoesOn [] = Unit {0}
  GoesOn (p ∷ ps) = ps ≡ pieces_from s (end_of p)

  from_here : (n e : ℕ) (xs : List ℕ) → e ≡ n → drop n s ≡ xs → walk outside n xs ≡ pieces_from s e
  unfolding pieces_from
  from_here n e xs l h = rw (l, h)

  on : (xs : List ℕ) (q : Place) (n : ℕ) → drop n s ≡ xs → Ready q n → GoesOn (walk q n xs)
  unfolding walk
  on [] outside n h r = tt
  on [] (inside a f) n h r = from_here n (a + length f) [] r.long h
  on (x ∷ xs) outside n h r =
      cases (is_lead x)
      (λ e. rw e (on xs (inside n (x ∷ [])) (suc n) (drop_tail n x xs h) (new n x xs h e)))
      (λ e. rw e (on xs outside (suc n) (drop_tail n x xs h) tt))
  on (x ∷ xs) (inside a f) n h r =
      cases (is_lead x)
      (λ e. let w : walk outside n (x ∷ xs) ≡ walk (inside n (x ∷ [])) (suc n) xs = rw e in
      rw e (sym w ∙ from_here n (a + length f) (x ∷ xs) r.long h))
      (λ e. rw e
      (cases (eqb x CR)
      (λ d. rw d (from_here (suc n) (a + length (f ++ (x ∷ []))) xs (rw (length-append f (x ∷ [])) (omega (arith, r.long))) (drop_tail n x xs h)))
      (λ d. rw d (on xs (inside a (f ++ (x ∷ []))) (suc n) (drop_tail n x xs h) (more a n x f xs h r e d)))))

  pub goes_on : (at : ℕ) → GoesOn (pieces_from s at)
  unfolding pieces_from
  goes_on at = on (drop at s) outside at refl tt

-- ---- the pieces are one after the other

-- the earliest place where the next piece can start
earliest : Place → ℕ → ℕ → Type 0
earliest outside lo n = lo ≤ n
earliest (inside a f) lo n = (lo ≤ a) × (a + length f ≡ n)

ordered : (xs : List ℕ) (q : Place) (lo n : ℕ) → earliest q lo n → InOrder lo (walk q n xs) (n + length xs)
unfolding walk earliest
ordered [] outside lo n h = omega arith
ordered [] (inside a f) lo n h = (h.0, omega arith)
ordered (x ∷ xs) outside lo n h =
    let m : n + suc (length xs) ≡ suc n + length xs = omega arith in
    cases (is_lead x)
    (λ e. rw (e, m) (ordered xs (inside n (x ∷ [])) lo (suc n) (h, add-one n)))
    (λ e. rw (e, m) (ordered xs outside lo (suc n) (omega arith)))
ordered (x ∷ xs) (inside a f) lo n h =
    let m : n + suc (length xs) ≡ suc n + length xs = omega arith in
    let l : a + length (f ++ (x ∷ [])) ≡ suc n = rw (length-append f (x ∷ [])) (omega arith) in
    cases (is_lead x)
    (λ e. rw (e, m) (h.0, ordered xs (inside n (x ∷ [])) (a + length f) (suc n) (omega arith, add-one n)))
    (λ e. rw (e, m)
    (cases (eqb x CR)
    (λ d. rw d (h.0, ordered xs outside (a + length (f ++ (x ∷ []))) (suc n) (omega (arith, l))))
    (λ d. rw d (ordered xs (inside a (f ++ (x ∷ []))) lo (suc n) (h.0, l)))))

pub fits : (lo hi : ℕ) (ps : List Piece) → InOrder lo ps hi → lo + total ps ≤ hi
fits lo hi [] h = omega arith
fits lo hi (p ∷ ps) h = let k = fits (end_of p) hi ps h.1 in omega arith

pub pieces_ordered : (s : List ℕ) (at : ℕ) → InOrder at (pieces_from s at) (at + length (drop at s))
unfolding pieces_from earliest
pieces_ordered s at = ordered (drop at s) outside at at (le_refl at)
