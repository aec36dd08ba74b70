use Rattle.std.proofs.Common.{pos, sym, subst}
use Rattle.std.proofs.lemmas.Result.{IfOk-weaker}
use Rattle.std.specs.Int.Signed.{≤ℤ_refl}
use Rattle.fh_document.specs.Proper.{IsDocument}
use Rattle.replay_tests.proofs.ways.way_to.Goals as goal

pub returns : goal.returns
returns c = IfOk-weaker c.make.result _ _ (λ w h. let stands = h (pos 0) (≤ℤ_refl (pos 0)) in subst IsDocument (sym stands.document) stands.read) c.make.ensures
