-- `page::sofar::Sofar::cell_turn` meets its contract.
use Rattle.std.proofs.Common.{ℕ, ◌-◌, ap, ◌∙◌, arith}
use Rattle.desk.proofs.Below.{not_left}
use Rattle.page.proofs.TakeLaws.{set_held, cell_roomy}
use Rattle.page.proofs.sofar.Sofar.cell_turn.Goals as goal

pub invariant_of-self : goal.invariant_of-self
invariant_of-self c =
    let s = c.args.self.now in
    let r = cell_roomy s c.args.i c.args.label (not_left c.cell_takes.ensures c.if-not-cell_takes.false) in
    let w = c.saturating_sub-waiting.ensures ∙ ap (λ (x : ℕ). s.waiting - x) c.ended_by-ended.ensures in
    let h = s.held c.args.i c.requires in
    record {
      roomy = omega (arith, r, w);
      seated = s.seated;
      in_use = s.in_use;
      held = set_held _ _ _ _ (omega (arith, h)) (λ j b. let q = s.held j b in omega (arith, q));
    }

pub returns-clause-then : goal.returns-clause-then
returns-clause-then c = rw (not_left c.cell_takes.ensures c.if-not-cell_takes.false, c.saturating_sub-waiting.ensures, c.ended_by-ended.ensures)
