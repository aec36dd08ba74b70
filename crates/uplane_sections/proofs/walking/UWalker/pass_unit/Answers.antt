use Rattle.uplane_sections.proofs.Runs.{over_at_none}
use Rattle.uplane_sections.proofs.walking.UWalker.pass_unit.Goals as goal

pub returns-in_default : goal.returns-in_default
returns-in_default c =
    let e = c.step.ensures in
    record {
      within = e.within;
      used = e.used;
      passes = record { items = _; tells = e.tells };
      ends = over_at_none c.step.new.self c.step.result.used c.step.result.what e.answers;
    }
