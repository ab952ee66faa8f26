-- Shapes: one number, two shapes in a row, and raw bytes are lawful, and what is written reads back. Assumes nothing.
use Rattle.std.specs.Prelude.{Option, Some, None}
use Prim.Native.Nat.{ℕ, zero, suc, ◌+◌, ◌-◌, ◌^◌, ◌≤◌}
use mathlib.Core.List.{List, [], ◌∷◌, ◌++◌, append_assoc, append-nil}
use mathlib.Core.Bool.{Bool, true, false, ◌&&◌}
use mathlib.Core.Path.{◌≡◌, refl, sym, ap, ap₂, ◌∙◌}
use native.Mathlib.Omega.{arith}
use native.Mathlib.Nat.{add-zero, add-suc}
use lib.Dec.{T, leb, ltb, leb→le, ltb→lt}
use lib.ListN.{length, get_or, take, drop, length-append, take-append-drop, get_or-append}
use lib.Seq.{take-add, take_all, length-take-le, drop-drop, drop-cons, get_or-append-add}
use Rattle.digits.specs.Form as D
use Rattle.digits.specs.Form.{Form}
use Rattle.digits.proofs.Forms.{number_lawful, number_back}
use Rattle.frames.specs.Shape.{Value, is, none, Shape, value, one, number, pair, both, bytes_of, run}

-- ---- what every shape must meet

-- a value takes the shape's width, reading depends only on the shape's own bytes, and a value that was read is written as the bytes that were there
pub record Lawful {A : Type 0} (k : Shape A) : Type 0 where
  pub long : (v : A) → length (k.put v) ≡ k.width
  pub local : (pre t post : List ℕ) → length t ≡ k.width → k.got (pre ++ t ++ post) (length pre) ≡ k.got t 0
  pub again : (s : List ℕ) (p : ℕ) (v : A) → p + k.width ≤ length s → k.got s p ≡ is v → take k.width (drop p s) ≡ k.put v

-- a lawful shape whose good values, if they fit, read back from their writing; every value that is read fits
pub record Inverse {A : Type 0} (k : Shape A) (rule : A → Bool) (Fit : A → Type 0) : Type 0 where
  pub lawful : Lawful k
  pub fit : (s : List ℕ) (p : ℕ) (v : A) → k.got s p ≡ is v → Fit v
  pub back : (v : A) → rule v ≡ true → Fit v → k.got (k.put v) 0 ≡ is v

-- ---- one number

pub value_is : (x : Option ℕ) (v : ℕ) → value x ≡ is v → x ≡ Some v
value_is (Some w) v e = ap Some (let q : w ≡ v = cc in q)
value_is None v e = absurd (let z : ◌≡◌ {A = ℕ} 0 1 = cc in omega arith)

pub one_inverse : {k : Form} {rule : ℕ → Bool} → D.Inverse k rule → Inverse (one k) rule (λ _. Unit {0})
one_inverse {k} {rule} g = record {
  lawful = record {
    long = g.lawful.long;
    local = λ pre t post h. ap value (g.lawful.local pre t post h);
    again = λ s p v h e. g.lawful.again s p v h (value_is (k.got s p) v e);
  };
  fit = λ s p v e. tt;
  back = λ v h f. ap value (g.back v h);
}

-- both of two tests, if they hold together
pub both_hold : (a b : Bool) → T (a && b) → T a × T b
both_hold true b t = (tt, t)
both_hold false b t = absurd t

-- w digits, with a rule whose highest value is hi
pub digits_inverse : {rule : ℕ → Bool} (w hi : ℕ) → T (leb 1 w && leb w 10) → T (ltb hi (10 ^ w)) → ((v : ℕ) → rule v ≡ true → v ≤ hi) → Inverse (number w) rule (λ _. Unit {0})
digits_inverse w hi t u below =
    let d = both_hold (leb 1 w) (leb w 10) t in
    let least = leb→le 1 w d.0 in
    let most = leb→le w 10 d.1 in
    one_inverse (record { lawful = number_lawful w least most; back = λ v h. let k = below v h in let l = ltb→lt hi (10 ^ w) u in number_back w v least most (omega arith) })

-- ---- two shapes

-- the bytes from a place on, in two pieces
pub join : (n a p : ℕ) (s x y : List ℕ) → a ≤ n → take a (drop p s) ≡ x → take (n - a) (drop (p + a) s) ≡ y → x ++ y ≡ take n (drop p s)
join n a p s x y h e q =
    let split : n ≡ a + (n - a) = omega arith in
    sym (ap (λ (m : ℕ). take m (drop p s)) split ∙ take-add a (n - a) (drop p s) ∙ rw (drop-drop a p s, e, q))

module _ {A B : Type 0} where
  record Halves (x : Value A) (y : Value B) (v : A × B) : Type 0 where
    left : x ≡ is v.0
    right : y ≡ is v.1

  first : Value (A × B) → Value A
  first (is v) = is v.0
  first none = none

  second : Value (A × B) → Value B
  second (is v) = is v.1
  second none = none

  halves : (x : Value A) (y : Value B) (v : A × B) → pair x y ≡ is v → Halves x y v
  unfolding first second
  halves (is a) (is b) v e = record { left = ap first e; right = ap second e }
  halves (is a) none v e = absurd (let z : ◌≡◌ {A = ℕ} 0 1 = cc in omega arith)
  halves none y v e = absurd (let z : ◌≡◌ {A = ℕ} 0 1 = cc in omega arith)

  both_local : {a : Shape A} {b : Shape B} → Lawful a → Lawful b → (pre t post : List ℕ) → length t ≡ a.width + b.width
      → (both a b).got (pre ++ t ++ post) (length pre) ≡ (both a b).got t 0
  both_local {a} {b} l m pre t post h =
      let x = take a.width t in
      let y = drop a.width t in
      let is-t : t ≡ x ++ y = sym (take-append-drop a.width t) in
      let lx : length x ≡ a.width = length-take-le a.width t (omega arith) in
      let ly : length y ≡ b.width = omega (arith, ap length is-t, length-append x y) in
      let whole : pre ++ t ++ post ≡ pre ++ x ++ (y ++ post) = ap (λ (u : List ℕ). pre ++ u ++ post) is-t ∙ simp append_assoc in
      let shifted : pre ++ t ++ post ≡ (pre ++ x) ++ y ++ post = ap (λ (u : List ℕ). pre ++ u ++ post) is-t ∙ simp append_assoc in
      let lp : length (pre ++ x) ≡ length pre + a.width = length-append pre x ∙ rw lx in
      let e₁ : a.got (pre ++ t ++ post) (length pre) ≡ a.got x 0 = rw whole (l.local pre x (y ++ post) lx) in
      let e₂ : a.got t 0 ≡ a.got x 0 = ap (λ (u : List ℕ). a.got u 0) (is-t ∙ ap (λ (u : List ℕ). x ++ u) (sym (append-nil y))) ∙ l.local [] x (y ++ []) lx in
      let f₁ : b.got (pre ++ t ++ post) (length pre + a.width) ≡ b.got y 0 = rw (shifted, ← lp) (m.local (pre ++ x) y post ly) in
      let f₂ : b.got t (0 + a.width) ≡ b.got y 0 =
      ap₂ (λ (u : List ℕ) (n : ℕ). b.got u n) (is-t ∙ sym (append-nil (x ++ y))) (let z : 0 + a.width ≡ length x = omega (arith, lx) in z) ∙ m.local x y [] ly in
      ap₂ pair (e₁ ∙ sym e₂) (f₁ ∙ sym f₂)

  both_again : {a : Shape A} {b : Shape B} → Lawful a → Lawful b → (s : List ℕ) (p : ℕ) (v : A × B) → p + (a.width + b.width) ≤ length s → (both a b).got s p ≡ is v
      → take (a.width + b.width) (drop p s) ≡ a.put v.0 ++ b.put v.1
  both_again {a} {b} l m s p v h e =
      let q = halves (a.got s p) (b.got s (p + a.width)) v e in
      let r : a.width + b.width - a.width ≡ b.width = omega arith in
      sym (join (a.width + b.width) a.width p s _ _ (omega arith) (l.again s p v.0 (omega arith) q.left) (rw r (m.again s (p + a.width) v.1 (omega arith) q.right)))

  pub both_inverse : {a : Shape A} {b : Shape B} {rule : A × B → Bool} {FitA : A → Type 0} {FitB : B → Type 0} {rule_a : A → Bool} {rule_b : B → Bool}
      → Inverse a rule_a FitA → Inverse b rule_b FitB → ((v : A × B) → rule v ≡ true → (rule_a v.0 ≡ true) × (rule_b v.1 ≡ true))
      → Inverse (both a b) rule (λ v. FitA v.0 × FitB v.1)
  both_inverse {a} {b} g h good = record {
    lawful = record {
      long = λ v. length-append (a.put v.0) (b.put v.1) ∙ rw (g.lawful.long v.0, h.lawful.long v.1);
      local = both_local g.lawful h.lawful;
      again = both_again g.lawful h.lawful;
    };
    fit = λ s p v e. let q = halves (a.got s p) (b.got s (p + a.width)) v e in (g.fit s p v.0 q.left, h.fit s (p + a.width) v.1 q.right);
    back = λ v r f.
        let x = a.put v.0 in
        let y = b.put v.1 in
        let lx = g.lawful.long v.0 in
        let ly = h.lawful.long v.1 in
        let e : a.got (x ++ y) 0 ≡ is v.0 =
        ap (λ (u : List ℕ). a.got (x ++ u) 0) (sym (append-nil y)) ∙ g.lawful.local [] x (y ++ []) lx ∙ g.back v.0 (good v r).0 f.0 in
        let z : 0 + a.width ≡ length x = omega (arith, lx) in
        let d : b.got (x ++ y) (0 + a.width) ≡ is v.1 =
        ap₂ (λ (u : List ℕ) (n : ℕ). b.got u n) (sym (append-nil (x ++ y))) z ∙ h.lawful.local x y [] ly ∙ h.back v.1 (good v r).1 f.1 in
        ap₂ pair e d;
  }

-- ---- raw bytes

pub length_bytes : (l : List ℕ) (i n : ℕ) → length (bytes_of l i n) ≡ n
length_bytes l i zero = refl
length_bytes l i (suc n) = ap suc (length_bytes l (suc i) n)

bytes_local : (n i : ℕ) (pre t post : List ℕ) → i + n ≤ length t → bytes_of (pre ++ t ++ post) (length pre + i) n ≡ bytes_of t i n
bytes_local zero i pre t post h = refl
bytes_local (suc n) i pre t post h =
    let e : get_or (pre ++ t ++ post) (length pre + i) 0 ≡ get_or t i 0 = rw (append_assoc, get_or-append-add) (get_or-append t post 0 i (omega arith)) in
    rw (e, ← add-suc (length pre) i, bytes_local n (suc i) pre t post (omega arith))

pub bytes_taken : (n p : ℕ) (s : List ℕ) → p + n ≤ length s → take n (drop p s) ≡ bytes_of s p n
bytes_taken zero p s h = refl
bytes_taken (suc n) p s h = rw (drop-cons s p 0 (omega arith)) (ap (λ (l : List ℕ). get_or s p 0 ∷ l) (bytes_taken n (suc p) s (omega arith)))

-- all bytes of a list
pub all_bytes : (l : List ℕ) (n : ℕ) → length l ≡ n → bytes_of l 0 n ≡ l
all_bytes l n e = sym (bytes_taken n 0 l (omega arith)) ∙ take_all n l (omega arith)

pub run_inverse : (n : ℕ) {rule : List ℕ → Bool} → Inverse (run n) rule (λ v. length v ≡ n)
run_inverse n = record {
  lawful = record {
    long = λ v. length_bytes v 0 n;
    local = λ pre t post h. ap is (ap (λ (p : ℕ). bytes_of (pre ++ t ++ post) p n) (sym (add-zero (length pre))) ∙ bytes_local n 0 pre t post (omega arith));
    again = λ s p v h e. let q : bytes_of s p n ≡ v = same_run e in bytes_taken n p s h ∙ sym (all_bytes v n (sym (ap length q) ∙ length_bytes s p n) ∙ sym q);
  };
  fit = λ s p v e. sym (ap length (same_run e)) ∙ length_bytes s p n;
  back = λ v h f. ap is (ap (λ (u : List ℕ). bytes_of u 0 n) (all_bytes v n f) ∙ all_bytes v n f);
}
  where
    content : Value (List ℕ) → List ℕ
    content (is v) = v
    content none = []

    same_run : {l v : List ℕ} → is l ≡ is v → l ≡ v
    same_run e = ap content e
