-- Only one answer meets the promise of running_time. The other promises equate the answer itself with a definition.
use Rattle.digits.specs.Once.{Once}
use Rattle.times.specs.declared.running.RunningOf.{RunningOf}
use Rattle.times.specs.Running.{RunningAs}

pub record OneOutcome : Type 0 where
  pub running_time : (of : RunningOf) → Once (RunningAs of)
