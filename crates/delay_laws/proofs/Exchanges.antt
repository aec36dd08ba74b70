-- What a unit's part in a measurement rests on.
use Rattle.std.proofs.Common.{◌≡◌, ℕ, ◌==◌, true, false, List, [], ◌∷◌, refl, ap, inl, inr}
use Rattle.std.proofs.lemmas.Bool.{cases_Bool}
use Rattle.air_source.specs.declared.events.Side.{Side}
use Rattle.air_source.specs.declared.events.Side.TheVariants.{Ru, Du}
use Rattle.delay_measure.specs.After.{Told, exchange_after, exchange_next, id_of}
use Rattle.delay_measure.specs.declared.edge.Compensation.{Compensation}
use Rattle.delay_laws.specs.Nodes.{Heard, measured, node_of, told_to}
use Rattle.delay_laws.specs.Laws.{ExchangesAreTold}

abbrev pub ExchangeIs : (Side → Compensation) → List Heard → Side → ℕ → Type 0
ExchangeIs comps heard side id = (node_of side (measured comps id heard)).exchange ≡ exchange_after (comps side).sending (comps side).receiving (told_to side heard) id

-- one of both units is told something about the id
told_about : (comps : Side → Compensation) (earlier : List Heard) (s side : Side) (told : Told) (id : ℕ) → (id_of told == id) ≡ true → ExchangeIs comps earlier side id → ExchangeIs comps ((record { side = s; told = told }) ∷ earlier) side id
told_about comps earlier Ru Ru told id is h = rw is (ap (exchange_next (comps Ru).sending (comps Ru).receiving told) h)
told_about comps earlier Ru Du told id is h = rw is h
told_about comps earlier Du Ru told id is h = rw is h
told_about comps earlier Du Du told id is h = rw is (ap (exchange_next (comps Du).sending (comps Du).receiving told) h)

told_besides : (comps : Side → Compensation) (earlier : List Heard) (s side : Side) (told : Told) (id : ℕ) → (id_of told == id) ≡ false → ExchangeIs comps earlier side id → ExchangeIs comps ((record { side = s; told = told }) ∷ earlier) side id
told_besides comps earlier Ru Ru told id is h = rw is h
told_besides comps earlier Ru Du told id is h = rw is h
told_besides comps earlier Du Ru told id is h = rw is h
told_besides comps earlier Du Du told id is h = rw is h

pub exchanges_told : ExchangesAreTold
exchanges_told comps [] Ru id = refl
exchanges_told comps [] Du id = refl
exchanges_told comps (one ∷ earlier) side id = elim (cases_Bool (id_of one.told == id)) [
  | inl is ↦ told_about comps earlier one.side side one.told id is (exchanges_told comps earlier side id)
  | inr other ↦ told_besides comps earlier one.side side one.told id other (exchanges_told comps earlier side id)
]
