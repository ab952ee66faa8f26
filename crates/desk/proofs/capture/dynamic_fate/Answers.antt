-- `desk::capture::dynamic_fate` meets its contract.
use Rattle.desk.specs.Capture.{dynamic_fate}
use mathlib.Core.Path.{ap}
use Rattle.desk.proofs.capture.dynamic_fate.Goals as goal

pub returns-in-Ok : goal.returns-in-Ok
returns-in-Ok c = ap dynamic_fate (rw c.in-Ok.is at c.read_dynamic.ensures)

pub returns-in-Err : goal.returns-in-Err
returns-in-Err c = ap dynamic_fate (rw c.in-Err.is at c.read_dynamic.ensures)
