-- Letters and statuses have places of their own in their lists. Assumes nothing.
use Prim.Native.Nat.{ℕ, ◌<◌}
use mathlib.Core.Bool.{true}
use mathlib.Core.List.{List}
use mathlib.Core.Path.{◌≡◌, refl, sym, ap, ◌∙◌}
use lib.Dec.{eqb}
use lib.ListN.{length, get_or}
use borrow.Author.Tests.{eqb-true, eqb-false, eq-eqb, ne_eqb}
use Rattle.digits.specs.Text.{one_of, place_of}
use Rattle.digits.proofs.Tests.{by-test}
use Rattle.digits.proofs.Tables.{agreed, place_below, at_place}
use Rattle.frames.specs.Reply.{letters, is_letter, letter_place}
use Rattle.frames.specs.Status.{statuses, is_status, status_place}

-- a byte of a list without repeats is its i-th exactly if i is its place
is_at : (l : List ℕ) (n : ℕ) → length l ≡ n → ((i : ℕ) → i < n → place_of l (get_or l i 0) ≡ i) → (b i : ℕ) → one_of l b ≡ true → i < n → eqb b (get_or l i 0) ≡ eqb i (place_of l b)
is_at l n e own b i h k =
    by-test (eqb i (place_of l b))
    (λ y. eq-eqb b (get_or l i 0) (sym (at_place l b (place_below l b h)) ∙ ap (λ (j : ℕ). get_or l j 0) (sym (eqb-true i (place_of l b) y))) ∙ sym y)
    (λ y. ne_eqb b (get_or l i 0) (λ q. eqb-false i (place_of l b) y (sym (own i k) ∙ ap (place_of l) (sym q))) ∙ sym y)

-- ---- letters

pub letter_below : (b : ℕ) → is_letter b ≡ true → letter_place b < 33
unfolding is_letter letter_place
letter_below b h = place_below letters b h

pub letter_own : (i : ℕ) → i < 33 → letter_place (get_or letters i 0) ≡ i
unfolding letter_place place_of
letter_own i h = eqb-true _ _ (agreed (λ k. eqb (letter_place (get_or letters k 0)) k) (λ k. true) 33 refl i h)

pub letter_in_law : (i : ℕ) → i < 33 → is_letter (get_or letters i 0) ≡ true
unfolding is_letter one_of
letter_in_law i h = agreed (λ k. is_letter (get_or letters k 0)) (λ k. true) 33 refl i h

pub letter_is : (b i : ℕ) → is_letter b ≡ true → i < 33 → eqb b (get_or letters i 0) ≡ eqb i (letter_place b)
unfolding is_letter letter_place
letter_is b i h k = is_at letters 33 refl letter_own b i h k

pub letter_at_law : (b : ℕ) → is_letter b ≡ true → get_or letters (letter_place b) 0 ≡ b
unfolding is_letter letter_place
letter_at_law b h = at_place letters b (place_below letters b h)

-- ---- statuses

pub status_below : (b : ℕ) → is_status b ≡ true → status_place b < 3
unfolding is_status status_place
status_below b h = place_below statuses b h

pub status_own : (i : ℕ) → i < 3 → status_place (get_or statuses i 0) ≡ i
unfolding status_place place_of
status_own i h = eqb-true _ _ (agreed (λ k. eqb (status_place (get_or statuses k 0)) k) (λ k. true) 3 refl i h)

pub status_in_law : (i : ℕ) → i < 3 → is_status (get_or statuses i 0) ≡ true
unfolding is_status one_of
status_in_law i h = agreed (λ k. is_status (get_or statuses k 0)) (λ k. true) 3 refl i h

pub status_is : (b i : ℕ) → is_status b ≡ true → i < 3 → eqb b (get_or statuses i 0) ≡ eqb i (status_place b)
unfolding is_status status_place
status_is b i h k = is_at statuses 3 refl status_own b i h k

pub status_at_law : (b : ℕ) → is_status b ≡ true → get_or statuses (status_place b) 0 ≡ b
unfolding is_status status_place
status_at_law b h = at_place statuses b (place_below statuses b h)
