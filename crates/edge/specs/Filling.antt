-- Reading until the input ends, the room is full or a read fails.
use Rattle.std.specs.Prelude.{ℕ, ◌+◌, ◌<◌, ◌≤◌, ◌≡◌, List, ◌++◌, length, take, drop, Option, Result, Ok, Err}
use Rattle.std.specs.Io.{ReadsAtMost}
use Rattle.std.specs.Io.KnownBytes.{ReadConsumes}

-- what can come of one read: the reader and the room that is lent to it, its answer, and the reader and the room after it
abbrev pub Reading : Type 0 → Type 0 → Type 1
Reading S E = S → List ℕ → Result ℕ E → S → List ℕ → Type 0

-- out, from place n on as a read left it
abbrev pub laid : List ℕ → ℕ → List ℕ → List ℕ
laid out n room = take n out ++ room

module _ {S E : Type 0} where
  -- what std promises of every reader's read, by the bytes that the reader is known to give from there on. Of a reader whose bytes are not known it
  -- promises only how many bytes at most.
  abbrev pub Promised : (S → Option (List ℕ)) → Reading S E
  Promised remaining s room answer s' room' =
      (length room' ≡ length room) × ReadsAtMost answer room' × ReadConsumes (remaining s) (remaining s') answer room'

  -- what can come of filling out from place n on, read after read: the place after the last byte, and whether a read failed; then the reader and out.
  -- Each read is lent all of out that is left; if nothing is left there is none. The last one fills out, gives nothing or fails.
  pub data Filled (One : Reading S E) : S → List ℕ → ℕ → ℕ × Result (Unit {0}) E → S → List ℕ → Type 0 where
    full : {s : S} {out : List ℕ} {n : ℕ} → length out ≤ n → Filled One s out n (n, Ok tt) s out
    ended : {s s' : S} {out room : List ℕ} {n : ℕ} → n < length out → One s (drop n out) (Ok 0) s' room → Filled One s out n (n, Ok tt) s' (laid out n room)
    failed : {s s' : S} {out room : List ℕ} {n : ℕ} {e : E} → n < length out → One s (drop n out) (Err e) s' room → Filled One s out n (n, Err e) s' (laid out n room)
    more : {s s' s'' : S} {out room out' : List ℕ} {n k : ℕ} {answer : ℕ × Result (Unit {0}) E} → n < length out → One s (drop n out) (Ok k) s' room → 0 < k
        → Filled One s' (laid out n room) (n + k) answer s'' out' → Filled One s out n answer s'' out'
