-- Seats that are said to end: when a desk has room for what is said, and a desk that does it.
use Rattle.std.specs.Prelude.{◌≡◌, ℕ, ◌+◌, ◌<◌, ◌≤◌, Bool, true, cond, ◌&&◌, List, replicate, ◌==◌, ◌≢◌}
use Rattle.frames.specs.declared.timing.Timing.TheVariants.{Raw}
use Rattle.frames.specs.declared.reply.StaticReply.{StaticReply}
use Rattle.frames.specs.Rules.{space}
use Rattle.frames.specs.Status.{status_e}
use Rattle.frames.specs.Kind.{frame_of}
use Rattle.frames.specs.Reply.{reply}
use Rattle.desk.specs.declared.key.Key.{Key}
use Rattle.desk.specs.Limits.{seat_count}
use Rattle.desk.specs.Below.{count_below}
use Rattle.desk.specs.Key.{seat_key}
use Rattle.desk.specs.Seats.{seat_at, used_bit}
use Rattle.desk.specs.Memory.{Memory, capacity, cell_at, mark_at}
use Rattle.desk.specs.Desk.{is_desk}

-- ---- a reply that ends a request

-- the last record of the request with this key: letter A, which has raw time and date, all spaces
abbrev pub ending : Key → StaticReply
ending k =
    record {
      head = record { address = k.address; program = space; mode = space; status = status_e; requester = k.requester; number = k.number; bib = 0; group = 0; run = 1; physical = 0; channel = 0; information = 65 };
      timing = Raw;
      raw_time = replicate 10 space;
      raw_date = replicate 8 space;
      spare = replicate 2 space;
    }

unfoldable pub ending_frame : Key → List ℕ
ending_frame k = frame_of reply (ending k)

-- ---- seats that are said to end

-- seat s is in use and said to end, and its end has not come
abbrev pub waits_at : Memory → (ℕ → Bool) → ℕ → Bool
waits_at m said s = used_bit m.bits s && (said s && (seat_at m.row s).ended == 0)

-- what is said can still come true
pub record CanEnd (m : Memory) (said : ℕ → Bool) : Type 0 where
  -- a used seat that has ended is said to
  pub none_unsaid : (s : ℕ) → s < seat_count → used_bit m.bits s ≡ true → ((seat_at m.row s).ended ≢ 0) → said s ≡ true
  -- a cell is free for each seat that waits
  pub cells_enough : m.count + count_below seat_count (waits_at m said) ≤ capacity m

-- x is a desk that has the seats and the rows of m, perhaps more rows after them, and what is said is true of it
pub record EndsAs (m : Memory) (said : ℕ → Bool) (x : Memory) : Type 0 where
  pub is_desk_holds : is_desk x ≡ true
  pub bits : x.bits ≡ m.bits
  pub keys : (s : ℕ) → seat_key (seat_at x.row s) ≡ seat_key (seat_at m.row s)
  pub no_fewer : m.count ≤ x.count
  pub size : capacity x ≡ capacity m
  pub marks : (j : ℕ) → j < m.count → mark_at x.marks j ≡ mark_at m.marks j
  pub cells : (j : ℕ) → j < m.count → cell_at x.cells j ≡ cell_at m.cells j
  pub as_said : (s : ℕ) → s < seat_count → used_bit m.bits s ≡ true → (seat_at x.row s).ended ≡ cond (said s) 1 0

-- what can come true does on some desk
abbrev pub CanEndDoes : Type 0
CanEndDoes = (m : Memory) (said : ℕ → Bool) → is_desk m ≡ true → CanEnd m said → (x : Memory) × EndsAs m said x
