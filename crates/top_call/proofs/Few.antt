-- What is said where a text is done.
use Rattle.std.proofs.Common.{◌≡◌, Result, Ok, Err, OnOk}
use Rattle.fronthaul_replay.specs.declared.report.TextFault.{TextFault}
use Rattle.fronthaul_replay.specs.declared.report.TextFault.TheVariants as text
use Rattle.top_call.specs.declared.status.Status.TheVariants.{Done}
use Rattle.top_call.specs.Endings.{text_status}

-- what is said at Ok is said of a run that is done
pub few_texted : (r : Result (Unit {0}) TextFault) (P : Type 0) → OnOk r P → text_status r ≡ Done → P
few_texted (Ok u) P few done = few
few_texted (Err text.WriteFault) P few done = absurd (cc done)
few_texted (Err text.NoMemory) P few done = absurd (cc done)
