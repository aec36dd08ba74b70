use Rattle.std.proofs.Common.{refl}
use Rattle.fh_document.proofs.reading.start.Goals as goal

pub returns : goal.returns
returns c = rw (c.defaults.ensures, c.new.ensures, c.new-2.ensures, c.new-3.ensures, c.new-4.ensures, c.new-5.ensures, c.new-6.ensures) refl
