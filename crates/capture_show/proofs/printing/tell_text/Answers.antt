use Rattle.std.proofs.Common.{◌≡◌, ◌++◌, ap, ap₂, ◌∙◌}
use Rattle.std.specs.Prelude.{codes}
use Rattle.std.specs.List.{flat_map}
use Rattle.std.proofs.lemmas.Result.{on_ok_weaker, on_err_weaker}
use Rattle.fh_base.specs.CarriedLaws.{carried_more}
use Rattle.fh_base.proofs.Parts.{part_behind, part_before}
use Rattle.capture_show.specs.Lines.{kind_text, is_bare}
use Rattle.capture_show.specs.Texts.{member_text, line_text}
use Rattle.capture_show.proofs.Members.{carried_pair, part_pair}
use Rattle.capture_show.proofs.printing.tell_text.Goals as goal
use Rattle.fh_base.proofs.OwedTelling.{anyhow}

pub returns-in_err-tell_members-clause-part : goal.returns-in_err-tell_members-clause-part
unfolding line_text
returns-in_err-tell_members-clause-part g c =
    let l = c.args.shown.now in
    let kind_is : c.as_bytes.result.now ≡ kind_text l.kind = c.as_bytes.ensures.value ∙ c.kind_text.ensures.text ∙ ap kind_text c.kind.ensures in
    let members_are : flat_map (member_text c.is_bare.result) c.members.result.now ≡ flat_map (member_text (is_bare l.kind)) l.members
    = ap₂ (λ b ms. flat_map (member_text b) ms) (c.is_bare.ensures ∙ ap is_bare c.kind-2.ensures) c.members.ensures in
    anyhow c.from_residual-in_err-tell_members.result
    (part_before _ _ _ (kind_text l.kind ++ flat_map (member_text (is_bare l.kind)) l.members) (codes "\n")
    (part_pair _ _ _ _ _ _ _ _ _ kind_is members_are c.in_ok-tell.ensures.carried c.in_err-tell_members.ensures.part))

pub returns-clause-carried : goal.returns-clause-carried
unfolding line_text
returns-clause-carried g c =
    let l = c.args.shown.now in
    let kind_is : c.as_bytes.result.now ≡ kind_text l.kind = c.as_bytes.ensures.value ∙ c.kind_text.ensures.text ∙ ap kind_text c.kind.ensures in
    let members_are : flat_map (member_text c.is_bare.result) c.members.result.now ≡ flat_map (member_text (is_bare l.kind)) l.members
    = ap₂ (λ b ms. flat_map (member_text b) ms) (c.is_bare.ensures ∙ ap is_bare c.kind-2.ensures) c.members.ensures in
    let both = carried_pair _ _ _ _ _ _ _ _ _ _ kind_is members_are c.in_ok-tell.ensures.carried c.in_ok-tell_members.ensures.carried in
    on_ok_weaker c.tell-2.result (λ h. carried_more _ _ _ _ _ _ (kind_text l.kind ++ flat_map (member_text (is_bare l.kind)) l.members) (codes "\n") both h) c.tell-2.ensures.carried

pub returns-clause-part : goal.returns-clause-part
unfolding line_text
returns-clause-part g c =
    let l = c.args.shown.now in
    let kind_is : c.as_bytes.result.now ≡ kind_text l.kind = c.as_bytes.ensures.value ∙ c.kind_text.ensures.text ∙ ap kind_text c.kind.ensures in
    let members_are : flat_map (member_text c.is_bare.result) c.members.result.now ≡ flat_map (member_text (is_bare l.kind)) l.members
    = ap₂ (λ b ms. flat_map (member_text b) ms) (c.is_bare.ensures ∙ ap is_bare c.kind-2.ensures) c.members.ensures in
    let both = carried_pair _ _ _ _ _ _ _ _ _ _ kind_is members_are c.in_ok-tell.ensures.carried c.in_ok-tell_members.ensures.carried in
    on_err_weaker c.tell-2.result (λ h. part_behind _ _ (kind_text l.kind ++ flat_map (member_text (is_bare l.kind)) l.members) _ _ (codes "\n") _ both h) c.tell-2.ensures.part
