-- Events that can be swapped: neighbours with different keys.
use Rattle.std.specs.Prelude.{◌+◌, ◌≤◌, [], ◌∷◌, true, ◌≡◌}
use Rattle.digits.specs.Told.{Told, gives, refuses}
use Rattle.frames.specs.Kind.{read}
use Rattle.frames.specs.Request.{request}
use Rattle.frames.specs.Reply.{reply}
use Rattle.frames.specs.declared.request.StaticRequest.{StaticRequest}
use Rattle.frames.specs.declared.reply.StaticReply.{StaticReply}
use Rattle.desk.specs.declared.key.Key.{Key}
use Rattle.desk.specs.Rule.{Frame}
use Rattle.desk.specs.Memory.{Memory, capacity}
use Rattle.desk.specs.Desk.{is_desk}
use Rattle.desk.specs.Events.{Event, to_open, to_reply, happens, run}
use Rattle.desk.specs.Views.{Same}
use Rattle.desk.specs.Mix.{replies_to}

-- the address, requester and number in a well formed frame
abbrev pub key_asked : Told StaticRequest → Told Key
key_asked (gives r) = gives (record { address = r.address; requester = r.requester; number = r.number })
key_asked (refuses why) = refuses why

abbrev pub key_answered : Told StaticReply → Told Key
key_answered (gives r) = gives (record { address = r.head.address; requester = r.head.requester; number = r.head.number })
key_answered (refuses why) = refuses why

abbrev pub key_of : Event → Told Key
key_of (to_open f) = key_asked (read request f)
key_of (to_reply f) = key_answered (read reply f)

-- no key is in both; a damaged frame has none
abbrev pub Apart : Event → Event → Type 0
Apart e d = (k : Key) → key_of e ≡ gives k → key_of d ≡ gives k → ⊥

-- e and d, one after the other, in both orders: each gets the same answer in both, and the desk looks the same after them
pub record Swaps (m : Memory) (e d : Event) : Type 0 where
  pub first : (happens (happens m d).after e).answer ≡ (happens m e).answer
  pub second : (happens (happens m e).after d).answer ≡ (happens m d).answer
  pub after : Same (run m (d ∷ e ∷ [])) (run m (e ∷ d ∷ []))

-- two openings are left out: where both are done, each gets the other's seat in the other order
pub record NeighboursSwap : Type 0 where
  -- two replies, with a cell for each that is addressed to an open request
  pub replies : (m : Memory) (f g : Frame) → is_desk m ≡ true → Apart (to_reply f) (to_reply g) → m.count + replies_to m (to_reply f ∷ to_reply g ∷ []) ≤ capacity m
      → Swaps m (to_reply f) (to_reply g)
  -- an opening and a reply, whether the opening is done or refused, and whether a cell is free or not
  pub opening : (m : Memory) (f g : Frame) → is_desk m ≡ true → Apart (to_open f) (to_reply g) → Swaps m (to_open f) (to_reply g)
