-- A walker that is fed all the rest of a message at each step, and what is gathered of its answers.
use Rattle.std.proofs.Common.{◌≡◌, ℕ, ◌+◌, ◌-◌, List, [], ◌++◌, length, take, drop, Some, refl, sym, ap, ◌∙◌, subst, arith, length-drop}
use Rattle.std.proofs.lemmas.List.{append-nil, take-append-drop, take_all}
use Rattle.std.proofs.Math.Seq.{take-add}
use Rattle.fh_base.specs.declared.values.Shape.{Shape}
use Rattle.bfp_codec.specs.declared.methods.Format.{Format}
use Rattle.uplane_sections.specs.declared.walking.UWalker.{UWalker}
use Rattle.unit_model.specs.Terms.{URefusal, UFeed}
use Rattle.uplane_sections.specs.Messages.{Item, Telling, refused, after, told}
use Rattle.uplane_sections.specs.Phases.{feed_told}
use Rattle.uplane_sections.specs.States.{tells, StandsBehind}
use Rattle.unit_model.specs.Decoding.{Gathering, nothing_told, gathered}
use Rattle.unit_model.proofs.GatheringLemmas.{gathered-append}

pub gathered_none : (g : Gathering) → gathered g [] ≡ g
unfolding gathered
gathered_none g = refl

-- the bytes used before, and those of the rest that are used now
pub used_together : (bytes : List ℕ) (at used : ℕ) → take at bytes ++ take used (take (length bytes - at) (drop at bytes)) ≡ take (at + used) bytes
used_together bytes at used =
    let all : take (length bytes - at) (drop at bytes) ≡ drop at bytes = take_all (length bytes - at) (drop at bytes) (omega (arith, length-drop at bytes)) in
    rw all (sym (take-add at used bytes))

module _ (format : Format) (prbs : ℕ) (shape : Shape) where
  abbrev items_of : List ℕ → List Item
  items_of bytes = (told format prbs shape bytes).items

  pub stands_on : (w : UWalker) (bytes : List ℕ) (at used : ℕ) → StandsBehind format prbs shape w (take at bytes ++ take used (take (length bytes - at) (drop at bytes))) →
      StandsBehind format prbs shape w (take (at + used) bytes)
  stands_on w bytes at used s =
      let P : List ℕ → Type 0 = λ (xs : List ℕ). StandsBehind format prbs shape w xs in
      subst P (used_together bytes at used) s

  told_on : (bytes : List ℕ) (at used : ℕ) (more : List Item) →
      items_of (take at bytes ++ take used (take (length bytes - at) (drop at bytes))) ≡ items_of (take at bytes) ++ more →
      items_of (take (at + used) bytes) ≡ items_of (take at bytes) ++ more
  told_on bytes at used more e = ap items_of (sym (used_together bytes at used)) ∙ e

  -- what was gathered, with what the walker told now
  pub gathered_on : (g new : Gathering) (bytes : List ℕ) (at used : ℕ) (what : UFeed) → g ≡ gathered nothing_told (items_of (take at bytes)) → new ≡ gathered g (feed_told what) →
      items_of (take at bytes ++ take used (take (length bytes - at) (drop at bytes))) ≡ items_of (take at bytes) ++ feed_told what →
      new ≡ gathered nothing_told (items_of (take (at + used) bytes))
  gathered_on g new bytes at used what before now e =
      now ∙ ap (λ (x : Gathering). gathered x (feed_told what)) before ∙ sym (gathered-append nothing_told (items_of (take at bytes)) (feed_told what))
      ∙ ap (gathered nothing_told) (sym (told_on bytes at used (feed_told what) e))

  -- where the walker refuses, the message tells what was told before, and that refusal
  pub refused_here : (w : UWalker) (bytes : List ℕ) (at used : ℕ) (r : URefusal) →
      StandsBehind format prbs shape w (take at bytes ++ take used (take (length bytes - at) (drop at bytes))) → ((rest : List ℕ) → tells w rest ≡ refused r) →
      items_of (take at bytes ++ take used (take (length bytes - at) (drop at bytes))) ≡ items_of (take at bytes) ++ [] →
      told format prbs shape bytes ≡ record { items = items_of (take at bytes); refusal = Some r }
  refused_here w bytes at used r s stays e =
      let n = at + used in
      let behind = stands_on w bytes at used s (drop n bytes) in
      let whole : told format prbs shape bytes ≡ after (items_of (take n bytes)) (tells w (drop n bytes)) = ap (told format prbs shape) (sym (take-append-drop n bytes)) ∙ behind in
      let items : items_of (take n bytes) ++ [] ≡ items_of (take at bytes) = append-nil (items_of (take n bytes)) ∙ told_on bytes at used [] e ∙ append-nil (items_of (take at bytes)) in
      whole ∙ ap (after (items_of (take n bytes))) (stays (drop n bytes)) ∙ ap (λ (xs : List Item). let t : Telling = record { items = xs; refusal = Some r } in t) items
