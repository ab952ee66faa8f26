-- `frames::runs::bytes_at` meets its contract.
use Rattle.std.proofs.Common.{rules}
use Rattle.frames.proofs.RunLaws.{filled_bytes}
use Rattle.frames.proofs.runs.bytes_at.Goals as goal

pub returns : goal.returns
returns g c = filled_bytes _ _ c.args.s.now c.args.at _ (λ i x q k. search rules) _ c.from_fn.ensures.items
