-- The items of a message, given one by one.
use Rattle.std.proofs.Common.{◌≡◌, ℕ, List, [], Contains, All, refl, sym, subst, arith, inl, inr}
use Rattle.std.proofs.lemmas.List.Elements.{All-nil, All-cons, All-contains, Contains-append_cases, Contains-append_left, Contains-append_right}
use Rattle.bfp_codec.specs.declared.samples.Wide.{Wide}
use Rattle.uplane_sections.specs.declared.steps.UFeed.{UFeed}
use Rattle.uplane_sections.specs.declared.steps.UFeed.TheVariants as feed
use Rattle.uplane_sections.specs.Messages.{Item, Head, Section, Block}
use Rattle.uplane_sections.specs.Phases.{feed_told}
use Rattle.uplane_messages.specs.Left.{TellsFirst}

-- an item that is no block of this PRB
abbrev pub IsOther : ℕ → Item → Type 0
IsOther wanted (Head head) = Unit {0}
IsOther wanted (Section s) = Unit {0}
IsOther wanted (Block prb samples) = prb ≡ wanted → ⊥

abbrev pub AreOther : ℕ → UFeed → Type 0
AreOther wanted what = All (IsOther wanted) (feed_told what)

pub no_block : (wanted : ℕ) (what : UFeed) → ((prb : ℕ) (samples : List Wide) → what ≡ feed.Block prb samples → ⊥) → AreOther wanted what
no_block wanted feed.More none = All-nil (IsOther wanted)
no_block wanted (feed.Head head) none = All-cons (IsOther wanted) (Head head) [] tt (All-nil (IsOther wanted))
no_block wanted (feed.Section s) none = All-cons (IsOther wanted) (Section s) [] tt (All-nil (IsOther wanted))
no_block wanted (feed.Block prb samples) none = absurd (none prb samples refl)
no_block wanted (feed.Refused r) none = All-nil (IsOther wanted)

pub other_block : (wanted : ℕ) (what : UFeed) (prb : ℕ) (samples : List Wide) → what ≡ feed.Block prb samples → (prb ≡ wanted → ⊥) → AreOther wanted what
other_block wanted what prb samples is other = subst (AreOther wanted) (sym is) (All-cons (IsOther wanted) (Block prb samples) [] other (All-nil (IsOther wanted)))

module _ (all old new : List Item) (what : UFeed) (first : TellsFirst old new what) where
  pub still_among : ((x : Item) → Contains old x → Contains all x) → (x : Item) → Contains new x → Contains all x
  still_among among x here = among x (subst (λ (xs : List Item). Contains xs x) (sym first.first) (Contains-append_right (feed_told what) new x here))

  pub still_ahead : (wanted : ℕ) → AreOther wanted what → ((samples : List Wide) → Contains all (Block wanted samples) → Contains old (Block wanted samples))
      → (samples : List Wide) → Contains all (Block wanted samples) → Contains new (Block wanted samples)
  still_ahead wanted other ahead samples here =
      elim (Contains-append_cases (feed_told what) new (Block wanted samples) (subst (λ (xs : List Item). Contains xs (Block wanted samples)) first.first (ahead samples here))) [
        | inl passed ↦ absurd (All-contains (IsOther wanted) (feed_told what) (Block wanted samples) other passed refl)
        | inr later ↦ later
      ]

  pub is_found : (prb wanted : ℕ) (samples : List Wide) → what ≡ feed.Block prb samples → prb ≡ wanted → ((x : Item) → Contains old x → Contains all x) → Contains all (Block wanted samples)
  is_found prb wanted samples is same among =
      let alone : Contains (feed_told (feed.Block prb samples)) (Block prb samples) = (0, omega arith, refl) in
      let here = subst (λ (w : UFeed). Contains (feed_told w) (Block prb samples)) (sym is) alone in
      subst (λ (n : ℕ). Contains all (Block n samples)) same
      (among (Block prb samples) (subst (λ (xs : List Item). Contains xs (Block prb samples)) (sym first.first) (Contains-append_left (feed_told what) new (Block prb samples) here)))

pub none_ahead : (left : List Item) (x : Item) → left ≡ [] → Contains left x → ⊥
none_ahead left x none here = let k = subst (λ (xs : List Item). Contains xs x) none here in absurd (let lt = k.1 in omega arith)
