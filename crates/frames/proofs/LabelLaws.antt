-- The label by the bytes alone is the label that the reader gives. Assumes nothing.
use Rattle.std.specs.Prelude.{Option, Some, None}
use Prim.Native.Nat.{ℕ, suc, ◌+◌, ◌-◌, ◌*◌, ◌≤◌}
use mathlib.Core.List.{List}
use mathlib.Core.Bool.{true, false≢true}
use mathlib.Core.Path.{◌≡◌, refl, sym, ap, subst, ◌∙◌}
use native.Mathlib.Omega.{arith}
use borrow.Author.Tests.{eqb-true}
use lib.Dec.{eqb}
use lib.ListN.{get_or}
use Rattle.digits.specs.Digits.{is_digit, number_from, number_at}
use Rattle.digits.specs.Told.{Told, gives, refuses}
use Rattle.digits.proofs.Tests.{by-test}
use Rattle.digits.proofs.Reading.{between}
use Rattle.frames.specs.declared.reply.StaticReply.{StaticReply}
use Rattle.frames.specs.declared.reply.ReplyLabel.{ReplyLabel}
use Rattle.frames.specs.Rules.{is_address, is_requester}
use Rattle.frames.specs.Kind.{head_told, read}
use Rattle.frames.specs.Status.{is_status}
use Rattle.frames.specs.Reply.{reply, is_letter, is_good, GoodIsRead, digit_at, label_of, label_at, LabelIsRead}
use Rattle.frames.specs.inside.Held.{or_none}
use Rattle.frames.specs.inside.Reply.{head_at, reply_at, wrong_at}
use Rattle.frames.proofs.HeadLaws.{tried_gives, then_gives}
use Rattle.frames.proofs.RuleLaws.{up_to_law}
use Rattle.frames.proofs.LayoutLaws.{seen_is}
use Rattle.frames.proofs.KindLaws.{passed}
use Rattle.frames.proofs.ReplyLaws.{head_fine, sees_reply}

-- ---- a number that was read has digits only

read_number : (x : Option ℕ) → or_none x ≤ 99999 → x ≡ Some (or_none x)
read_number (Some v) h = refl
read_number None h = absurd (omega arith)

-- its first digit, by the low half of the byte, and the others
pub record Led (s : List ℕ) (p w v n : ℕ) : Type 0 where
  pub low : 48 ≤ get_or s p 0
  pub high : get_or s p 0 ≤ 57
  pub rest : number_from s (suc p) w (v * 10 + digit_at s p) ≡ Some n

led : (s : List ℕ) (p w v n : ℕ) → number_from s p (suc w) v ≡ Some n → Led s p w v n
unfolding number_from
led s p w v n e =
    by-test (is_digit (get_or s p 0))
    (λ t.
    let k = between 48 57 (get_or s p 0) t in
    let same : get_or s p 0 - 48 ≡ digit_at s p = omega (arith, k.0, k.1) in
    record { low = k.0; high = k.1; rest = rw same at (rw t at e) })
    (λ f. absurd (let g : None ≡ Some n = rw f at e in let z : ◌≡◌ {A = ℕ} 0 1 = cc in omega arith))

-- five digits
number_by_bytes : (s : List ℕ) (n : ℕ) → number_at s 7 5 ≡ Some n → digit_at s 7 * 10000 + digit_at s 8 * 1000 + digit_at s 9 * 100 + digit_at s 10 * 10 + digit_at s 11 ≡ n
unfolding number_at number_from
number_by_bytes s n e =
    let a = led s 7 4 0 n e in
    let b = led s 8 3 _ n a.rest in
    let c = led s 9 2 _ n b.rest in
    let d = led s 10 1 _ n c.rest in
    let f = led s 11 0 _ n d.rest in
    let sum : (((0 * 10 + digit_at s 7) * 10 + digit_at s 8) * 10 + digit_at s 9) * 10 + digit_at s 10 ≡ digit_at s 7 * 1000 + digit_at s 8 * 100 + digit_at s 9 * 10 + digit_at s 10 = omega arith in
    let is : ((((0 * 10 + digit_at s 7) * 10 + digit_at s 8) * 10 + digit_at s 9) * 10 + digit_at s 10) * 10 + digit_at s 11 ≡ n = let q = f.rest in cc in
    omega arith

-- ---- the label

-- a reply that was read: its record holds what the fields hold, and none of them is wrong
record Given (s : List ℕ) (r : StaticReply) : Type 0 where
  is : r ≡ reply_at s
  address : is_address (get_or s 2 0) ≡ true
  fine : wrong_at s ≡ 0

given : (s : List ℕ) (r : StaticReply) → read reply s ≡ gives r → Given s r
unfolding read
given s r e =
    let h = then_gives (head_told 18 51 s) _ r e in
    let p = passed 18 51 s h.0 in
    let t = tried_gives (eqb (wrong_at s) 0) _ _ r (sym (seen_is (sees_reply s p.address)) ∙ h.1) in
    let q = t.1 in
    record { is = cc; address = p.address; fine = eqb-true (wrong_at s) 0 t.0 }

-- the parts of the label of a good reply
pub record Labelled (l : ReplyLabel) : Type 0 where
  pub address : is_address l.address ≡ true
  pub requester : is_requester l.requester ≡ true
  pub number : l.number ≤ 99999

pub label_legal : (s : List ℕ) (r : StaticReply) → read reply s ≡ gives r → Labelled (label_of r)
label_legal s r e =
    let g = given s r e in
    let h = head_fine (head_at s) _ g.fine in
    subst (λ (x : StaticReply). Labelled (label_of x)) (sym g.is) (record { address = g.address; requester = h.requester; number = up_to_law 99999 _ h.number })

-- letter and status of a good reply are its bytes at 29 and 5
pub record Lettered (s : List ℕ) (r : StaticReply) : Type 0 where
  pub letter : is_letter (get_or s 29 0) ≡ true
  pub status : is_status (get_or s 5 0) ≡ true
  pub letter_is : r.head.information ≡ get_or s 29 0
  pub status_is : r.head.status ≡ get_or s 5 0

pub lettered : (s : List ℕ) (r : StaticReply) → read reply s ≡ gives r → Lettered s r
lettered s r e =
    let g = given s r e in
    let h = head_fine (head_at s) _ g.fine in
    record { letter = h.letter; status = h.status; letter_is = ap (λ (x : StaticReply). x.head.information) g.is; status_is = ap (λ (x : StaticReply). x.head.status) g.is }

pub label_is_read : LabelIsRead
unfolding label_at
label_is_read s r e =
    let g = given s r e in
    let l : Labelled (label_of (reply_at s)) = subst (λ (x : StaticReply). Labelled (label_of x)) g.is (label_legal s r e) in
    let n = number_by_bytes s _ (read_number (number_at s 7 5) l.number) in
    rw g.is (λ i. record { status = get_or s 5 0; address = get_or s 2 0; requester = get_or s 6 0; number = n i })

-- ---- the check alone

pub good_is_read : GoodIsRead
good_is_read s = (yes_read (read reply s), λ q. ap is_good q.1)
  where
    yes_read : (t : Told StaticReply) → is_good t ≡ true → (r : StaticReply) × (t ≡ gives r)
    yes_read (gives r) e = (r, refl)
    yes_read (refuses f) e = absurd (false≢true e)
