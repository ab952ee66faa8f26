-- A number in two parts, one after the other: how it is read and written. Assumes nothing.
use Prim.Native.Nat.{ℕ, zero, suc, ◌+◌, ◌-◌, ◌*◌, ◌/◌, ◌%◌, ◌^◌}
use mathlib.Core.List.{List, [], ◌∷◌, ◌++◌, append-nil, append_assoc}
use mathlib.Core.Bool.{Bool, true, false, cond}
use mathlib.Core.Path.{◌≡◌, refl, sym, ap, ◌∙◌}
use native.Mathlib.Omega.{arith}
use native.Mathlib.Nat.{add-zero, add-suc, add_assoc, pow-suc, pow-succ', pow-zero, mul_assoc, div-one, div-div-eq-div-mul}
use lib.ListN.{get_or}
use Rattle.std.specs.Prelude.{Option, Some, None}
use Rattle.digits.specs.Digits.{digits, number_from, is_digit}
use Rattle.digits.proofs.Laws.{and_then, last_apart}

-- a first part, and a second one of b digits
abbrev pub joined : ℕ → Option ℕ → Option ℕ → Option ℕ
joined b (Some u) (Some v) = Some (u * 10 ^ b + v)
joined b (Some u) None = None
joined b None y = None

joined_none : (x : Option ℕ) → x ≡ joined 0 x (Some 0)
joined_none (Some u) = ap Some (omega (arith, pow-zero 10))
joined_none None = refl

one_more_case : (u v b d : ℕ) → (u * 10 ^ b + v) * 10 + d ≡ u * 10 ^ suc b + (v * 10 + d)
one_more_case u v b d = rw (pow-suc 10 b, ← mul_assoc u (10 ^ b) 10) (omega arith)

joined_more : (b d : ℕ) (x y : Option ℕ) → and_then (joined b x y) d ≡ joined (suc b) x (and_then y d)
joined_more b d (Some u) (Some v) = go (is_digit d)
  where
    go : (t : Bool) → cond t (Some ((u * 10 ^ b + v) * 10 + (d - 48))) None ≡ joined (suc b) (Some u) (cond t (Some (v * 10 + (d - 48))) None)
    go true = ap Some (one_more_case u v b (d - 48))
    go false = refl
joined_more b d (Some u) None = refl
joined_more b d None y = refl

pub read_in_parts : (s : List ℕ) (p a b v : ℕ) → number_from s p (a + b) v ≡ joined b (number_from s p a v) (number_from s (p + a) b 0)
unfolding number_from
read_in_parts s p a zero v = rw (add-zero a) (joined_none (number_from s p a v))
read_in_parts s p a (suc b) v =
    ap (λ (w : ℕ). number_from s p w v) (add-suc a b)
    ∙ last_apart s p (a + b) v
    ∙ ap (λ (x : Option ℕ). and_then x (get_or s (p + (a + b)) 0)) (read_in_parts s p a b v)
    ∙ joined_more b (get_or s (p + (a + b)) 0) (number_from s p a v) (number_from s (p + a) b 0)
    ∙ rw (← add_assoc p a b) (ap (joined (suc b) (number_from s p a v)) (sym (last_apart s (p + a) b 0)))

pub written_in_parts : (a b n : ℕ) → digits (a + b) n ≡ digits a (n / 10 ^ b) ++ digits b n
unfolding digits
written_in_parts a zero n = rw (add-zero a, pow-zero 10, div-one n, append-nil)
written_in_parts a (suc b) n =
    rw (add-suc a b, written_in_parts a b (n / 10), div-div-eq-div-mul n 10 (10 ^ b), ← pow-succ' 10 b) (append_assoc (digits a (n / 10 ^ suc b)) (digits b (n / 10)) ((48 + n % 10) ∷ []))
