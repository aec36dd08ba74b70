use Rattle.fh_base.proofs.Progress.{front_none}
use Rattle.fh_base.proofs.OwedTelling.{anyhow}
use Rattle.idle_text.proofs.endpoints.tell_endpoint.Goals as goal

pub returns-in_err-flags-clause-front : goal.returns-in_err-flags-clause-front
returns-in_err-flags-clause-front g c first last cells t = anyhow c.from_residual.result (front_none _ _)
