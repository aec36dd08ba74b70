-- Messages and their frames, one after the other.
use Rattle.std.proofs.Common.{◌≡◌, ℕ, ◌&&◌, Bool, if◌then◌else◌, List, [], ◌∷◌, ◌++◌, All, refl, sym, ap, ◌∙◌, append_assoc}
use Rattle.std.proofs.lemmas.Bool.{eq-eqb}
use Rattle.std.proofs.lemmas.List.Elements.{All-head, All-tail}
use Rattle.window_config.specs.declared.config.Config.{Config}
use Rattle.air_source.specs.declared.links.LinkFrame.{LinkFrame}
use Rattle.fh_base.specs.Lists.{onto}
use Rattle.unit_model.specs.declared.jobs.UplinkJob.{UplinkJob}
use Rattle.plan_model.specs.Packs.{Message, alone, packs_behind, takes, with_part}
use Rattle.uplink_model.specs.Frames.{frames_behind, uplink_message_frames}
use Rattle.uplink_model.specs.Messages.{job_fields, messages_behind, takes_job}
use Rattle.uplink_model.specs.Laws.{MessagesArePacks, FramesAppend}

-- of one endpoint, a message takes a job as it takes any part
takes_as : (c : Config) (m : Message UplinkJob) (j : UplinkJob) (ep : ℕ) → m.first.ep ≡ ep → j.ep ≡ ep
    → takes_job c m j ≡ takes (job_fields c.endpoints) c.pack m j
takes_as c m j ep first same = ap (λ (b : Bool). b && takes (job_fields c.endpoints) c.pack m j) (eq-eqb m.first.ep j.ep (first ∙ sym same))

behind_as : (c : Config) (ep : ℕ) (m : Message UplinkJob) (js : List UplinkJob) → m.first.ep ≡ ep → All (λ j. j.ep ≡ ep) js
    → messages_behind c m js ≡ packs_behind (job_fields c.endpoints) c.pack m js
unfolding messages_behind packs_behind
behind_as c ep m [] first all = refl
behind_as c ep m (j ∷ js) first all =
    let one : j.ep ≡ ep = All-head (λ (k : UplinkJob). k.ep ≡ ep) j js all in
    let rest : All (λ (k : UplinkJob). k.ep ≡ ep) js = All-tail (λ (k : UplinkJob). k.ep ≡ ep) j js all in
    ap (λ (b : Bool). if b then messages_behind c (with_part m j) js else m ∷ messages_behind c (alone j) js) (takes_as c m j ep first one)
    ∙ ap (λ (l : List (Message UplinkJob)). if takes (job_fields c.endpoints) c.pack m j then l else m ∷ messages_behind c (alone j) js)
    (behind_as c ep (with_part m j) js first rest)
    ∙ ap (λ (l : List (Message UplinkJob)). if takes (job_fields c.endpoints) c.pack m j then packs_behind (job_fields c.endpoints) c.pack (with_part m j) js else m ∷ l)
    (behind_as c ep (alone j) js one rest)

pub packed_as : MessagesArePacks
packed_as c ep [] all = refl
packed_as c ep (j ∷ js) all = behind_as c ep (alone j) js (All-head (λ (k : UplinkJob). k.ep ≡ ep) j js all) (All-tail (λ (k : UplinkJob). k.ep ≡ ep) j js all)

pub frames_both : FramesAppend
unfolding frames_behind onto
frames_both c antenna earlier [] ns = refl
frames_both c antenna earlier (m ∷ ms) ns =
    ap (λ (l : List LinkFrame). uplink_message_frames c antenna earlier m ++ l) (frames_both c antenna (m ∷ earlier) ms ns)
    ∙ sym (append_assoc (uplink_message_frames c antenna earlier m) (frames_behind c antenna (m ∷ earlier) ms) (frames_behind c antenna (onto (m ∷ earlier) ms) ns))
