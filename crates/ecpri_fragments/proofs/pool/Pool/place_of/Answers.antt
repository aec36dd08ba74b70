use Rattle.std.proofs.Common.{◌≡◌, ◌<◌, ℕ, inl, inr, length, List, Option, Some, None, refl, arith}
use Rattle.std.specs.List.{slice_get}
use Rattle.std.proofs.lemmas.Option.{slice_get_read}
use Rattle.ecpri_fragments.specs.declared.place.Place.{Place}
use Rattle.ecpri_fragments.specs.Pools.{place_at}
use Rattle.ecpri_fragments.proofs.Numbers.{get_other, put_own}
use Rattle.ecpri_fragments.proofs.pool.Pool.place_of.Goals as goal

kept : (old new : List Place) (n : Option ℕ) → ((k : ℕ) → n ≡ Some k → slice_get new k ≡ slice_get old k) → place_at new n ≡ place_at old n
kept old new None h = refl
kept old new (Some k) h = h k refl

pub hand_out-requires : goal.hand_out-requires
hand_out-requires c =
    let self = c.args.self.now in
    rw c.in-None.is at (slice_get_read self.numbers.items (length self.numbers.items) c.args.id c.index.result.now refl (omega (arith, c.requires, self.numbers.ok.0)) c.index.ensures)

pub returns-in-Some : goal.returns-in-Some
returns-in-Some c =
    let self = c.args.self.now in
    let e : slice_get self.numbers.items c.args.id ≡ Some (Some c.in-Some.number) =
    rw c.in-Some.is at (slice_get_read self.numbers.items (length self.numbers.items) c.args.id c.index.result.now refl (omega (arith, c.requires, self.numbers.ok.0)) c.index.ensures) in
    record { len = refl; has = e; own = λ p f. inl (e, f); others = λ j n h f. (f, refl) }

pub returns-in-None : goal.returns-in-None
returns-in-None c =
    let self = c.args.self.now in
    let h = c.hand_out.ensures in
    let within : c.args.id < length self.numbers.items = omega (arith, c.requires, self.numbers.ok.0) in
    let e : slice_get self.numbers.items c.args.id ≡ Some None = rw c.in-None.is at (slice_get_read self.numbers.items (length self.numbers.items) c.args.id c.index.result.now refl within c.index.ensures) in
    record {
      len = h.len;
      has = rw h.numbers (put_own self.numbers.items c.args.id (Some c.hand_out.result) within);
      own = λ p f. inr (e, h.fresh p f);
      others = λ j n q f.
          let g = get_other self.numbers.items c.args.id j (Some c.hand_out.result) n q (rw h.numbers at f) in
          (g, kept self.places.items c.hand_out.new.self.places.items n (λ k x. h.others j k (rw x at g)));
    }
