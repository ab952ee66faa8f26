-- A reader's refusal is handed on: the call that read the frame answers with it, and with all its numbers. The memory stays as it was.
use Rattle.std.specs.Prelude.{ℕ, List, true, ◌≡◌}
use Rattle.digits.specs.declared.refusal.Refusal.{Refusal}
use Rattle.digits.specs.Told.{refuses}
use Rattle.frames.specs.Kind.{read}
use Rattle.frames.specs.Request.{request}
use Rattle.frames.specs.Reply.{reply}
use Rattle.desk.specs.Memory.{Memory}
use Rattle.desk.specs.Desk.{is_desk}
use Rattle.desk.specs.Calls.{opens, replies}

pub record RefusalsAreHandedOn : Type 0 where
  pub by_opening : (m : Memory) (f : List ℕ) (why : Refusal) → is_desk m ≡ true → read request f ≡ refuses why → opens m f ≡ record { answer = refuses why; after = m }
  pub by_reply : (m : Memory) (f : List ℕ) (why : Refusal) → is_desk m ≡ true → read reply f ≡ refuses why → replies m f ≡ record { answer = refuses why; after = m }
