-- Lines that are put together at known places of an array, and then put at once. Assumes nothing.
use Rattle.std.proofs.Common.{◌≡◌, ℕ, ◌+◌, ◌≤◌, List, [], ◌∷◌, ◌++◌, length, take, drop, set, replicate, arith}
use lib.Seq.{sets}
use Rattle.digits.specs.Digits.{digits, number_text}
use Rattle.text.specs.Put.{most_place, Put}
use Rattle.text.specs.Lines.{TAB, LF}
use Rattle.text.specs.Address.{address_shown}
use Rattle.text.proofs.PutLaws.{put_then}
use Rattle.finder.proofs.Step.{part_is}
use Rattle.desk.specs.declared.key.Key.{Key}
use Rattle.page.specs.Version.{one, seat_digit}
use Rattle.page.specs.Page.{seat_line, middle, cell_line, last_line}

module _ (out : List ℕ) (at end : ℕ) (out' : List ℕ) where
  -- seat, address and requester, then the number, then the rest
  pub put_seat_together : (i : ℕ) (k : Key) (ended digit shown : ℕ) (line : List ℕ) → digit ≡ seat_digit i → shown ≡ address_shown k.address
      → line ≡ sets (set (set (set (replicate 12 TAB) 0 digit) 2 shown) 4 k.requester) 6 (number_text 3 k.number)
      → Put out at (set (set line 10 (48 + ended)) 11 LF) end out' → Put out at (seat_line one i k ended) end out'
  unfolding seat_line digits
  put_seat_together i k ended digit shown line d a l p = rw (l, d, a) at p

  -- count, then sum, then the LF
  pub put_last_together : (count sum : ℕ) (line line' : List ℕ) → line ≡ sets (replicate 11 TAB) 0 (number_text 4 count) → line' ≡ sets line 5 (number_text 5 sum)
      → Put out at (set line' 10 LF) end out' → Put out at (last_line count sum) end out'
  unfolding last_line digits
  put_last_together count sum line line' e e' p = rw (e', e) at p

  -- seat and tab, then the middle of the frame, then the LF
  pub put_cell_together : (i : ℕ) (frame : List ℕ) (digit p : ℕ) (mid : List ℕ) (q : ℕ) (mid' : List ℕ) → length out ≤ most_place → digit ≡ seat_digit i
      → Put out at (digit ∷ TAB ∷ []) p mid → Put mid p (take 49 (drop 1 frame)) q mid' → Put mid' q (LF ∷ []) end out'
      → Put out at (cell_line one i (middle frame)) end out'
  unfolding cell_line
  put_cell_together i frame digit p mid q mid' l d x y z =
      rw (part_is frame 1 50 (omega arith), ← d) (put_then out at ((digit ∷ TAB ∷ []) ++ take 49 (drop 1 frame)) q mid' (LF ∷ []) end out' l (put_then out at (digit ∷ TAB ∷ []) p mid (take 49 (drop 1 frame)) q mid' l x y) z)
