-- What is demanded of keys and seats. Assumes nothing.
use Prim.Native.Nat.{ℕ}
use mathlib.Core.Bool.{true, ◌&&◌}
use mathlib.Core.Path.{◌≡◌, refl, sym, ◌∙◌}
use native.Mathlib.Omega.{arith}
use lib.Dec.{eqb, leb}
use lib.ListN.{take, replicate, length-replicate}
use borrow.Author.Tests.{eqb-true}
use Rattle.digits.specs.Text.{one_of}
use Rattle.digits.specs.Told.{gives}
use Rattle.digits.proofs.Tests.{and_l, and_r}
use Rattle.frames.specs.Rules.{up_to, is_address, is_requester, is_output}
use Rattle.frames.specs.Layout.{record_wrong}
use Rattle.frames.specs.Kind.{read, wrong_in}
use Rattle.frames.specs.Faithful.{output_of}
use Rattle.frames.specs.Request.{request, request_fields, is_information, is_request_channel}
use Rattle.frames.specs.declared.request.StaticRequest.{StaticRequest}
use Rattle.frames.specs.declared.reply.StaticReply.{StaticReply}
use Rattle.frames.proofs.RequestLaws.{request_faithful}
use Rattle.desk.specs.declared.state.Seat.{Seat}
use Rattle.desk.specs.declared.key.Key.{Key}
use Rattle.desk.specs.Key.{request_key, seat_key, same_key, is_key}
use Rattle.desk.specs.Rule.{Frame, is_to}
use Rattle.desk.specs.Seats.{seat_at}
use Rattle.desk.specs.Desk.{is_zero}
use Rattle.desk.specs.KeyDemands.{KeysAreRight}
use Rattle.desk.proofs.KeyLaws.{same_key_case, own_key, request_legal}
use Rattle.desk.proofs.ReplayLaws.{keyed_at_law, desk_facts}

-- ---- keys

key_of : StaticReply → Key
key_of r = record { address = r.head.address; requester = r.head.requester; number = r.head.number }

same_is : (k : Key) (r : StaticReply) → is_to k (gives r) ≡ same_key k (key_of r)
unfolding same_key key_of
same_is k r = refl

alike : (a b : Key) → a ≡ b → same_key a b ≡ true
alike a b e = rw e (own_key b)

-- a request with this key; what else it asks does not matter
asks : Key → StaticRequest
asks k = record { address = k.address; requester = k.requester; number = k.number; bib = 0; information = 48; channel = 0; run = 0; group = 0; output = 83 }

asks_fine : (k : Key) → is_key k ≡ true → wrong_in request (asks k) ≡ 0
unfolding asks is_key wrong_in request_fields record_wrong up_to is_information is_request_channel is_output one_of
asks_fine k h =
    let g = and_l (is_address k.address && is_requester k.requester) (leb k.number 999) h in
    rw (and_l (is_address k.address) (is_requester k.requester) g, and_r (is_address k.address) (is_requester k.requester) g, and_r (is_address k.address && is_requester k.requester) (leb k.number 999) h)

Asked : Key → Type 0
Asked k = (f : Frame) × ((r : StaticRequest) × ((read request f ≡ gives r) × (k ≡ request_key r)))

asked_by : (k : Key) → is_key k ≡ true → Asked k
unfolding Asked asks
asked_by k h =
    let out = replicate {A = ℕ} 24 0 in
    (take 24 (output_of request (asks k) out), (asks k, ((request_faithful.reads_back (asks k) tt (asks_fine k h) out (omega (arith, length-replicate {A = ℕ} 24 0))).1, refl)))

asked_legal : (k : Key) → Asked k → is_key k ≡ true
unfolding Asked
asked_legal k a = rw a.1.1.1 (request_legal a.0 a.1.0 a.1.1.0)

-- ---- seats

zero_parts : (s : Seat) → is_zero s ≡ true → s ≡ record { address = 0; requester = 0; number = 0; held = 0; ended = 0 }
unfolding is_zero
zero_parts s h =
    let d = and_l (eqb s.address 0 && eqb s.requester 0 && eqb s.number 0 && eqb s.held 0) (eqb s.ended 0) h in
    let c = and_l (eqb s.address 0 && eqb s.requester 0 && eqb s.number 0) (eqb s.held 0) d in
    let b = and_l (eqb s.address 0 && eqb s.requester 0) (eqb s.number 0) c in
    let address = eqb-true _ _ (and_l (eqb s.address 0) (eqb s.requester 0) b) in
    let requester = eqb-true _ _ (and_r (eqb s.address 0) (eqb s.requester 0) b) in
    let number = eqb-true _ _ (and_r (eqb s.address 0 && eqb s.requester 0) (eqb s.number 0) c) in
    let held = eqb-true _ _ (and_r (eqb s.address 0 && eqb s.requester 0 && eqb s.number 0) (eqb s.held 0) d) in
    let ended = eqb-true _ _ (and_r (eqb s.address 0 && eqb s.requester 0 && eqb s.number 0 && eqb s.held 0) (eqb s.ended 0) h) in
    λ i. record { address = address i; requester = requester i; number = number i; held = held i; ended = ended i }

pub keys_are_right : KeysAreRight
unfolding key_of Asked
keys_are_right = record {
  same = λ a b. (same_key_case a b, alike a b);
  own = λ k r. (λ h. same_key_case k (key_of r) (sym (same_is k r) ∙ h), λ e. same_is k r ∙ alike k (key_of r) e);
  legal = λ k. (asked_by k, asked_legal k);
  apart = λ m i j d l k u v p q r.
      let key = seat_key (seat_at m.row j) in
      (desk_facts m d).one key i j l k (keyed_at_law m.row m.bits i key u (λ n. record { address = p n; requester = q n; number = r n })) (keyed_at_law m.row m.bits j key v refl);
  unused = λ m i d l u. zero_parts (seat_at m.row i) ((desk_facts m d).zeros i l u);
}
