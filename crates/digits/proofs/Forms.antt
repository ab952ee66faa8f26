-- A byte and a number are lawful forms, and so is a form whose values are those of another form under other names. Assumes nothing.
use Prim.Native.Nat.{ℕ, zero, suc, ◌+◌, ◌-◌, ◌*◌, ◌^◌, ◌≤◌, ◌<◌}
use mathlib.Core.List.{List, [], ◌∷◌, ◌++◌, append-nil, append_assoc}
use mathlib.Core.Path.{◌≡◌, refl, sym, ap, ◌∙◌}
use native.Mathlib.Omega.{arith}
use native.Mathlib.Nat.{add-zero, add-suc}
use borrow.Author.Tests.{ltb-true}
use lib.ListN.{length, get_or, take, drop, get_or-append}
use lib.Seq.{get_or_at, get_or-append-add, drop-cons}
use Rattle.std.specs.Prelude.{Option, Some, None}
use Rattle.digits.specs.Digits.{digits, number_from, number_at}
use Rattle.digits.specs.Form.{Form, Lawful, NumberInverse, byte, number, named, renamed}
use Rattle.digits.proofs.Reading.{some_width}
use Rattle.digits.proofs.Writing.{length_digits}
use Rattle.digits.proofs.Laws.{written_is_read, read_was_written}

pub byte_lawful : Lawful byte
byte_lawful = record {
  long = λ v. refl;
  local = λ pre t post h. ap Some (byte_local pre t post h);
  again = λ s p v h e. rw (drop-cons s p 0 (omega arith)) (ap (λ (x : ℕ). x ∷ []) (let q : get_or s p 0 ≡ v = cc in q));
}
  where
    byte_local : (pre t post : List ℕ) → length t ≡ 1 → get_or (pre ++ t ++ post) (length pre) 0 ≡ get_or t 0 0
    byte_local pre [] post h = absurd (omega arith)
    byte_local pre (x ∷ t) post h = rw append_assoc (get_or_at pre x (t ++ post) 0 (length pre) refl)

number_local : (w v : ℕ) (pre t post : List ℕ) (p : ℕ) → p + w ≤ length t → number_from (pre ++ t ++ post) (length pre + p) w v ≡ number_from t p w v
unfolding number_from
number_local zero v pre t post p h = refl
number_local (suc w) v pre t post p h =
    let e : get_or (pre ++ t ++ post) (length pre + p) 0 ≡ get_or t p 0 = rw (append_assoc, get_or-append-add) (get_or-append t post 0 p (omega arith)) in
    rw (e, ← add-suc (length pre) p, number_local w (v * 10 + (get_or t p 0 - 48)) pre t post (suc p) (omega arith))

pub number_lawful : (w : ℕ) → 1 ≤ w → w ≤ 10 → Lawful (number w)
number_lawful w h k = record {
  long = λ v. length_digits w v;
  local = λ pre t post l.
      some_width (pre ++ t ++ post) (length pre) w h k
      ∙ ap (λ (p : ℕ). number_from (pre ++ t ++ post) p w 0) (sym (add-zero (length pre)))
      ∙ number_local w 0 pre t post 0 (omega arith)
      ∙ sym (some_width t 0 w h k);
  again = λ s p v l e. (read_was_written w s p v e).text;
}

-- a number of at most w digits, written and read, is itself
pub number_back : (w v : ℕ) → 1 ≤ w → w ≤ 10 → v < 10 ^ w → number_at (digits w v) 0 w ≡ Some v
number_back w v h k f = ap (λ (s : List ℕ). number_at s 0 w) (sym (append-nil (digits w v))) ∙ written_is_read w v [] [] h k f

pub number_inverse : NumberInverse
number_inverse w h k = record { lawful = number_lawful w h k; back = λ v f. number_back w v h k (ltb-true v (10 ^ w) f) }

-- a form under other names is lawful if each name leads back to its value
module _ (k : Form) (other : ℕ → Option ℕ) (own : ℕ → ℕ) (back : (n v : ℕ) → other n ≡ Some v → own v ≡ n) where
  renamed_again : (w : List ℕ) (x : Option ℕ) (v : ℕ) → ((n : ℕ) → x ≡ Some n → w ≡ k.put n) → named other x ≡ Some v → w ≡ k.put (own v)
  renamed_again w (Some n) v f e = f n refl ∙ ap k.put (sym (back n v e))
  renamed_again w None v f e = absurd (let z : ◌≡◌ {A = ℕ} 0 1 = cc in omega arith)

  pub renamed_lawful : Lawful k → Lawful (renamed k other own)
  renamed_lawful l = record {
    long = λ v. l.long (own v);
    local = λ pre t post h. ap (named other) (l.local pre t post h);
    again = λ s p v h e. renamed_again (take k.width (drop p s)) (k.got s p) v (λ n q. l.again s p n h q) e;
  }
