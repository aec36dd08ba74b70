-- What laws above this crate call what is here while a text is read.
use Rattle.std.specs.Prelude.{List}
use Rattle.fh_document.specs.declared.document.Injection.{Injection}
use Rattle.fh_document.specs.declared.document.Reading.{Reading}
use Rattle.fh_document.specs.declared.keywords.Keyword.{Keyword}
use Rattle.fh_document.specs.declared.keywords.Keyword.TheVariants as keyword

-- what the lines said so far
abbrev pub Said : Type 0
Said = Reading

-- a kind of lines
abbrev pub Kind : Type 0
Kind = Keyword

abbrev pub plans : Keyword
plans = keyword.Plan

abbrev pub deliveries : Keyword
deliveries = keyword.Deliver

abbrev pub injections : Keyword
injections = keyword.Inject

-- with these frames and no others
abbrev pub with_frames : Reading → List Injection → Reading
with_frames r is = record r { injections = is }
