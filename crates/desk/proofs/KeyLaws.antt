-- Laws of keys; and a request that was read has a legal key. Assumes nothing.
use Prim.Native.Nat.{ℕ}
use mathlib.Core.List.{List}
use mathlib.Core.Bool.{true, ◌&&◌}
use mathlib.Core.Path.{◌≡◌, refl}
use native.Mathlib.Omega.{arith}
use lib.Dec.{eqb, leb}
use borrow.Author.Tests.{eqb-true, eq-eqb}
use Rattle.digits.specs.Told.{gives}
use Rattle.digits.proofs.Tests.{and_l, and_r, and_true}
use Rattle.frames.specs.declared.request.StaticRequest.{StaticRequest}
use Rattle.frames.specs.Rules.{up_to, is_address, is_requester}
use Rattle.frames.specs.Layout.{record_wrong}
use Rattle.frames.specs.Kind.{read, wrong_in}
use Rattle.frames.specs.Request.{request, request_fields}
use Rattle.frames.proofs.LayoutLaws.{unless_none}
use Rattle.frames.proofs.RequestLaws.{request_fine}
use Rattle.desk.specs.declared.key.Key.{Key}
use Rattle.desk.specs.Key.{request_key, same_key, is_key}

pub same_key_case : (a b : Key) → same_key a b ≡ true → a ≡ b
unfolding same_key
same_key_case a b h =
    let g = and_l (eqb a.address b.address && eqb a.requester b.requester) _ h in
    let o = eqb-true _ _ (and_l (eqb a.address b.address) _ g) in
    let p = eqb-true _ _ (and_r (eqb a.address b.address) _ g) in
    let q = eqb-true _ _ (and_r (eqb a.address b.address && eqb a.requester b.requester) _ h) in
    λ i. record { address = o i; requester = p i; number = q i }

pub own_key : (k : Key) → same_key k k ≡ true
unfolding same_key
own_key k = and_true (and_true (eq-eqb k.address k.address refl) (eq-eqb k.requester k.requester refl)) (eq-eqb k.number k.number refl)

-- a request that was read has a legal key
pub request_legal : (f : List ℕ) (r : StaticRequest) → read request f ≡ gives r → is_key (request_key r) ≡ true
unfolding wrong_in request_fields record_wrong is_key up_to
request_legal f r e =
    let o = unless_none (is_address r.address) 2 _ (omega arith) (request_fine f r e) in
    let a = unless_none (is_requester r.requester) 3 _ (omega arith) o.1 in
    let b = unless_none (leb r.number 999) 4 _ (omega arith) a.1 in
    and_true (and_true o.0 a.0) b.0
