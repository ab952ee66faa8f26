-- When an opening is done and when it is refused, by the request and by what is seen of the seats.
use Rattle.std.specs.Prelude.{ℕ, ◌<◌, true, false, ◌≡◌}
use Rattle.digits.specs.Refusals.{plain}
use Rattle.digits.specs.Told.{gives, refuses}
use Rattle.frames.specs.Kind.{read}
use Rattle.frames.specs.Request.{request}
use Rattle.frames.specs.declared.request.StaticRequest.{StaticRequest}
use Rattle.desk.specs.Limits.{seat_count}
use Rattle.desk.specs.Rule.{Frame}
use Rattle.desk.specs.Memory.{Memory}
use Rattle.desk.specs.Desk.{is_desk}
use Rattle.desk.specs.Calls.{opens}
use Rattle.desk.specs.Events.{to_open}
use Rattle.desk.specs.Views.{view_at, Steps}

-- seat s is in use with the address, requester and number of the request
abbrev pub HasKeyOf : Memory → ℕ → StaticRequest → Type 0
HasKeyOf m s r = ((view_at m s).used ≡ true) × ((view_at m s).key ≡ record { address = r.address; requester = r.requester; number = r.number })

-- a well formed request on a desk
pub record Asks (m : Memory) (f : Frame) (r : StaticRequest) : Type 0 where
  pub desk : is_desk m ≡ true
  pub reads : read request f ≡ gives r

pub record OpeningsAreRight : Type 0 where
  -- with information q: 10
  pub no_answer_due : (m : Memory) (f : Frame) (r : StaticRequest) → Asks m f r → r.information ≡ 113 → opens m f ≡ record { answer = refuses (plain 10); after = m }
  -- otherwise, with a key that a seat has: 11
  pub in_use : (m : Memory) (f : Frame) (r : StaticRequest) (s : ℕ) → Asks m f r → (r.information ≡ 113 → ⊥) → s < seat_count → HasKeyOf m s r → opens m f ≡ record { answer = refuses (plain 11); after = m }
  -- otherwise, with every seat in use: 12
  pub no_seat : (m : Memory) (f : Frame) (r : StaticRequest) → Asks m f r → (r.information ≡ 113 → ⊥) → ((i : ℕ) → i < seat_count → HasKeyOf m i r → ⊥) → ((i : ℕ) → i < seat_count → (view_at m i).used ≡ true)
      → opens m f ≡ record { answer = refuses (plain 12); after = m }
  -- otherwise it gets the seat that is not in use and has all seats in use below it
  pub done : (m : Memory) (f : Frame) (r : StaticRequest) (s : ℕ) → Asks m f r → (r.information ≡ 113 → ⊥) → ((i : ℕ) → i < seat_count → HasKeyOf m i r → ⊥) → s < seat_count → (view_at m s).used ≡ false → ((i : ℕ) → i < s → (view_at m i).used ≡ true)
      → ((opens m f).answer ≡ gives s) × Steps m (to_open f) s
