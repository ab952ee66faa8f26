-- `listing::line::put_end` meets its contract: the word, and the first counts.
use Rattle.std.specs.Prelude.{◌++◌, take}
use Rattle.std.specs.List.{flat_map}
use Rattle.text.specs.Put.{Put}
use Rattle.listing.specs.Text.{end, count_text}
use Rattle.listing.proofs.line.put_end.Given as goal

abbrev pub invariant-loop-count : goal.invariant-loop-count
invariant-loop-count l = Put l.fn.out l.at (end ++ flat_map count_text (take l.count-index l.count-items)) l.p l.out
