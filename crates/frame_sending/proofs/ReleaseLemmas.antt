-- The frames of a queue that leave at a tick are sent, one after the other.
use Rattle.std.proofs.Common.{◌≡◌, ℕ, ℤ, ◌<◌, ◌^◌, List, [], ◌∷◌, ◌++◌, All, length, sym, ap, ◌∙◌, subst, append_assoc, append-nil}
use Rattle.std.specs.Prelude.{map}
use Rattle.std.proofs.lemmas.List.{map-append}
use Rattle.std.proofs.lemmas.List.Elements.{All-head, All-tail}
use Rattle.air_source.specs.declared.links.LinkFrame.{LinkFrame}
use Rattle.frame_ways.specs.Leaving.{Leaving}
use Rattle.fh_document.specs.declared.delivered.TrafficClass.TheVariants.{U}
use Rattle.frame_ways.specs.Ways.{OnWay, StandsFor, having_sent, having_sent_all, leaving_as}
use Rattle.frame_ways.specs.declared.way.Way.{Way}
use Rattle.frame_ways.specs.SendQueues.{AllHaveLeft, HasLeft, Leaves, WaitsFor}
use Rattle.frame_ways.proofs.SendQueueLemmas.{leaves_at_once}
use Rattle.frame_sending.specs.Releasing.{HasReleased, IsShort, answer_as}

-- these are gone, and went out
pub record Releases (n : ℕ) (tick : ℤ) (handed : List LinkFrame) (v : OnWay) (q : List LinkFrame) (w : Way) : Type 0 where
  pub gone : List LinkFrame
  pub leaves : Leaves n tick handed gone q
  pub way : StandsFor (having_sent_all v (map answer_as gone)) tick w

module _ (n : ℕ) (tick : ℤ) (handed : List LinkFrame) (v : OnWay) where
  abbrev with_these : List Leaving → OnWay
  with_these fs = record { document = v.document; side = v.side; sent = fs }

  pub none_released : (q : List LinkFrame) (w : Way) → WaitsFor n tick handed q → StandsFor v tick w → Releases n tick handed v q w
  none_released q w waits way = record {
    gone = [];
    leaves = leaves_at_once n tick handed q waits;
    way = subst (λ (fs : List Leaving). StandsFor (with_these fs) tick w) (sym (append-nil v.sent)) way;
  }

  pub one_released : (f : LinkFrame) (old new : List LinkFrame) (w x : Way) → (r : Releases n tick handed v old w) → f.at.0 ≡ tick → HasLeft n tick handed r.gone f new
      → StandsFor (having_sent (having_sent_all v (map answer_as r.gone)) (leaving_as tick U f.frame)) tick x → Releases n tick handed v new x
  one_released f old new w x r here left way =
      let gone = map answer_as r.gone in
      let all : (v.sent ++ gone) ++ leaving_as tick U f.frame ∷ [] ≡ v.sent ++ map answer_as (r.gone ++ f ∷ []) =
      ap (λ (t : ℤ). (v.sent ++ gone) ++ leaving_as t U f.frame ∷ []) (sym here)
      ∙ append_assoc v.sent gone (answer_as f ∷ [])
      ∙ ap (λ (fs : List Leaving). v.sent ++ fs) (sym (map-append answer_as r.gone (f ∷ []))) in
      record {
        gone = r.gone ++ f ∷ [];
        leaves = left.leaves;
        way = subst (λ (fs : List Leaving). StandsFor (with_these fs) tick x) all way;
      }

  pub all_released : (old new : List LinkFrame) (w : Way) → (r : Releases n tick handed v old w) → AllHaveLeft n tick handed r.gone new → HasReleased n tick handed v new w
  all_released old new w r all = record {
    waits = all.waits;
    way = subst (λ (fs : List LinkFrame). StandsFor (having_sent_all v (map answer_as fs)) tick w) (sym all.all) r.way;
  }

-- the first is short, and so are the rest
pub first_short : (f : LinkFrame) (old new : List LinkFrame) → old ≡ f ∷ new → All IsShort old → length f.frame < 2 ^ 32
first_short f old new is all = All-head IsShort f new (subst (All IsShort) is all)

pub rest_short : (f : LinkFrame) (old new : List LinkFrame) → old ≡ f ∷ new → All IsShort old → All IsShort new
rest_short f old new is all = All-tail IsShort f new (subst (All IsShort) is all)
