-- What the tests of a C-plane message say of the commands that it becomes.
use Rattle.std.proofs.Common.{ℕ, ℤ, ◌<◌, ◌≤◌, List, [], ◌∷◌, arith}
use Rattle.std.specs.Prelude.{All}
use Rattle.std.proofs.lemmas.List.Elements.{All-cons, All-nil, All-head, All-tail}
use Rattle.fh_base.specs.Numbering.{shape_of, symbols_of}
use Rattle.cplane_sections.specs.declared.values.CHead.{CHead}
use Rattle.cplane_sections.specs.declared.values.CSection.{CSection}
use Rattle.cplane_sections.specs.Header.{kind_of}
use Rattle.cplane_sections.specs.Message.{AreAdmitted, SectionFits, sections_in}
use Rattle.window_config.specs.declared.endpoints.EndpointConfig.{EndpointConfig}
use Rattle.unit_model.specs.Meetings.{command, commands_with}
use Rattle.unit_model.specs.Proper.{IsAt, IsTime, IsProperCommand}
use Rattle.unit_model.specs.Met.{IsRead}

sections_proper : (es : List EndpointConfig) (ep : ℕ) (e : EndpointConfig) (at : ℤ) (head : CHead) (before : ℕ) (ss : List CSection) → IsAt es ep e → IsTime at →
    head.subframe ≤ 9 → head.slot < (shape_of e.numerology).slots → head.start_symbol < (shape_of e.numerology).symbols →
    AreAdmitted (kind_of head.body) (symbols_of e.numerology) before ss → All SectionFits ss →
    All (IsProperCommand es) (commands_with ep e at head ss)
unfolding AreAdmitted
sections_proper es ep e at head before [] i t f l y a w = All-nil (IsProperCommand es)
sections_proper es ep e at head before (s ∷ ss) i t f l y a w =
    All-cons (IsProperCommand es) (command ep e at head s) (commands_with ep e at head ss)
    (record {
      endpoint = i;
      at = t;
      subframe = omega (arith, f);
      slot = l;
      start_symbol = y;
      some = a.0.some;
      within = a.0.within;
      start_prb = (All-head SectionFits s ss w).start_prb;
    })
    (sections_proper es ep e at head s.symbol ss i t f l y a.1 (All-tail SectionFits s ss w))

-- each command of a message that was read is proper
pub commands_proper : (es : List EndpointConfig) (ep : ℕ) (e : EndpointConfig) (at : ℤ) (head : CHead) (bytes : List ℕ) → IsRead e head bytes → IsAt es ep e → IsTime at →
    All (IsProperCommand es) (commands_with ep e at head (sections_in head bytes))
commands_proper es ep e at head bytes r i t =
    sections_proper es ep e at head head.start_symbol (sections_in head bytes) i t r.admits.subframe r.admits.slot r.admits.start_symbol r.admits.sections r.fits.sections_fit
