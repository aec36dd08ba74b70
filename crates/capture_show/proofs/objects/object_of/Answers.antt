use Rattle.std.proofs.Common.{rules, ◌≡◌, ap, ap₂, ◌∙◌, take}
use Rattle.std.specs.Prelude.{codes}
use Rattle.std.proofs.lemmas.List.{take_all}
use Rattle.serde_json.specs.Data.{object, no_members, put, string}
use Rattle.serde_json.specs.View.{view, members_view}
use Rattle.serde_json.proofs.Views.{view-Object}
use Rattle.capture_show.specs.Lines.{kind_text}
use Rattle.capture_show.specs.Texts.{put_all, shown_members, object_of}
use Rattle.capture_show.proofs.ObjectLemmas.{put_get}
use Rattle.capture_show.proofs.objects.object_of.Goals as goal

pub loop-m-preserved : goal.loop-m-preserved
loop-m-preserved c =
    let start = put (codes "line") (string (kind_text c.args.shown.now.kind)) no_members in
    c.in_ok-put-2.ensures.ok
    ∙ ap (λ k. put k (view c.in_ok-value.value) (members_view c.loop-m.map.entries)) c.name_text.ensures.text
    ∙ ap₂ (put _) c.in_ok-value.ensures c.loop-m.invariant
    ∙ put_get c.members-m-items.result.now c.loop-m.m-index _ start c.loop-m-test.true

pub returns : goal.returns
unfolding object_of
returns c =
    let start = put (codes "line") (string (kind_text c.args.shown.now.kind)) no_members in
    let whole : take c.loop-m.m-index c.members-m-items.result.now ≡ c.members-m-items.result.now = search (rules, take_all) in
    view-Object c.loop-m.map ∙ ap object (c.loop-m.invariant ∙ ap (λ ms. put_all (shown_members ms) start) (whole ∙ c.members-m-items.ensures))
