-- What is demanded of keys and seats: keys agree only in all three parts, the legal ones are those of static requests, no two used seats share one, and an unused seat is all zero.
use Rattle.std.specs.Prelude.{ℕ, ◌<◌, true, false, ◌↔◌, ◌≡◌}
use Rattle.digits.specs.Told.{gives}
use Rattle.frames.specs.Kind.{read}
use Rattle.frames.specs.Request.{request}
use Rattle.frames.specs.declared.request.StaticRequest.{StaticRequest}
use Rattle.frames.specs.declared.reply.StaticReply.{StaticReply}
use Rattle.desk.specs.declared.key.Key.{Key}
use Rattle.desk.specs.Limits.{seat_count}
use Rattle.desk.specs.Key.{same_key, is_key}
use Rattle.desk.specs.Rule.{Frame, is_to}
use Rattle.desk.specs.Seats.{seat_at, used_bit}
use Rattle.desk.specs.Memory.{Memory}
use Rattle.desk.specs.Desk.{is_desk}

pub record KeysAreRight : Type 0 where
  -- the test of two keys
  pub same : (a b : Key) → (same_key a b ≡ true) ↔ (a ≡ b)
  -- a well formed reply is a request's own exactly if it has its address, requester and number
  pub own : (k : Key) (r : StaticReply) → (is_to k (gives r) ≡ true) ↔ (k ≡ record { address = r.head.address; requester = r.head.requester; number = r.head.number })
  -- a key is legal exactly if some frame is a well formed static request with it
  pub legal : (k : Key)
      → (is_key k ≡ true) ↔ ((f : Frame) × ((r : StaticRequest) × ((read request f ≡ gives r) × (k ≡ record { address = r.address; requester = r.requester; number = r.number }))))
  -- on a desk, used seats with the same address, requester and number are one seat
  pub apart : (m : Memory) (i j : ℕ) → is_desk m ≡ true → i < seat_count → j < seat_count → used_bit m.bits i ≡ true → used_bit m.bits j ≡ true
      → (seat_at m.row i).address ≡ (seat_at m.row j).address → (seat_at m.row i).requester ≡ (seat_at m.row j).requester → (seat_at m.row i).number ≡ (seat_at m.row j).number → i ≡ j
  -- on a desk, each number of an unused seat is 0
  pub unused : (m : Memory) (i : ℕ) → is_desk m ≡ true → i < seat_count → used_bit m.bits i ≡ false
      → seat_at m.row i ≡ record { address = 0; requester = 0; number = 0; held = 0; ended = 0 }
