use Rattle.std.proofs.Common.{◌≡◌, take}
use Rattle.std.specs.Prelude.{codes}
use Rattle.serde_json.specs.Data.{no_members, put, string}
use Rattle.serde_json.specs.View.{members_view}
use Rattle.capture_show.specs.Lines.{kind_text}
use Rattle.capture_show.specs.Texts.{put_all, shown_members}
use Rattle.capture_show.proofs.objects.object_of.Given as goal

abbrev pub invariant-loop-m : goal.invariant-loop-m
invariant-loop-m l =
    members_view l.map.entries ≡ put_all (shown_members (take l.m-index l.m-items)) (put (codes "line") (string (kind_text l.shown.kind)) no_members)
