use Rattle.std.proofs.Common.{◌≡◌, ◌+◌, [], ◌∷◌, ◌++◌, length, None, Bool, cond, refl, sym, ap, ◌∙◌, subst, arith}
use Rattle.std.proofs.lemmas.Option.{same_Some, slice_get_within}
use Rattle.ecpri_fragments.specs.Numbers.{AreOnce}
use Rattle.ecpri_fragments.specs.Places.{StandsIn}
use Rattle.ecpri_fragments.proofs.Numbers.{below, get_before, get_last, one_free, one_longer, one_more, once_more}
use Rattle.ecpri_fragments.proofs.pool.Pool.hand_out_new.Goals as goal

pub prove-unreachable-requires : goal.prove-unreachable-requires
prove-unreachable-requires c =
    let self = c.args.self.now in
    let free = one_free self.numbers.items c.args.id c.requires.id in
    let h = c.push.ensures.succeeds (omega (arith, free, self.numbers.ok.0, self.room, self.all, c.requires.none)) in
    absurd (cc)

pub overflow_cast-number : goal.overflow_cast-number
overflow_cast-number c =
    let self = c.args.self.now in
    let free = one_free self.numbers.items c.args.id c.requires.id in
    omega (arith, free, self.numbers.ok.0, self.all, self.few, c.requires.none, c.len-number.ensures)

pub index_mut-requires : goal.index_mut-requires
index_mut-requires c =
    let self = c.args.self.now in
    let within = slice_get_within self.numbers.items c.args.id None c.requires.id in
    omega (arith, within, self.numbers.ok.0)

pub invariant_of-self-clause-within : goal.invariant_of-self-clause-within
invariant_of-self-clause-within c =
    let self = c.args.self.now in
    let grown : c.push.new.self.items ≡ self.places.items ++ c.new.result ∷ [] = c.push.ensures.items ∙
    ap (λ (b : Bool). cond b (self.places.items ++ c.new.result ∷ []) self.places.items) (sym c.is_ok-pushed.ensures.value ∙ c.if-prove.false) in
    let free = one_free self.numbers.items c.args.id c.requires.id in
    let longer = one_longer self.places.items c.push.new.self.items c.new.result grown in
    omega (arith, free, longer, self.numbers.ok.0, self.all, c.requires.none, self.places.ok.0, c.push.new.self.ok.0)

pub invariant_of-self-clause-room : goal.invariant_of-self-clause-room
invariant_of-self-clause-room c =
    let self = c.args.self.now in
    omega (arith, self.room, c.push.ensures.capacity)

pub invariant_of-self-clause-all : goal.invariant_of-self-clause-all
invariant_of-self-clause-all c =
    let self = c.args.self.now in
    let grown : c.push.new.self.items ≡ self.places.items ++ c.new.result ∷ [] = c.push.ensures.items ∙
    ap (λ (b : Bool). cond b (self.places.items ++ c.new.result ∷ []) self.places.items) (sym c.is_ok-pushed.ensures.value ∙ c.if-prove.false) in
    let more = one_more self.numbers.items c.args.id c.len-number.result c.requires.id in
    let longer = one_longer self.places.items c.push.new.self.items c.new.result grown in
    omega (arith, more, longer, self.all, self.places.ok.0, c.push.new.self.ok.0)

pub invariant_of-self-clause-once : goal.invariant_of-self-clause-once
invariant_of-self-clause-once c =
    let self = c.args.self.now in
    let grown : c.push.new.self.items ≡ self.places.items ++ c.new.result ∷ [] = c.push.ensures.items ∙
    ap (λ (b : Bool). cond b (self.places.items ++ c.new.result ∷ []) self.places.items) (sym c.is_ok-pushed.ensures.value ∙ c.if-prove.false) in
    let longer = one_longer self.places.items c.push.new.self.items c.new.result grown in
    let once : AreOnce self.numbers.items self.free.items c.len-number.result = subst (AreOnce self.numbers.items self.free.items) (sym c.len-number.ensures) self.once in
    let count : c.len-number.result + 1 ≡ c.push.new.self.len = omega (arith, longer, c.len-number.ensures, self.places.ok.0, c.push.new.self.ok.0) in
    rw (← count) (once_more self.numbers.items self.free.items c.len-number.result once c.args.id c.requires.id)

pub returns : goal.returns
returns c =
    let self = c.args.self.now in
    let grown : c.push.new.self.items ≡ self.places.items ++ c.new.result ∷ [] = c.push.ensures.items ∙
    ap (λ (b : Bool). cond b (self.places.items ++ c.new.result ∷ []) self.places.items) (sym c.is_ok-pushed.ensures.value ∙ c.if-prove.false) in
    let at : length self.places.items ≡ c.len-number.result = omega (arith, c.len-number.ensures, self.places.ok.0) in
    record {
      numbers = refl;
      len = refl;
      fresh = λ p. rw (grown, ← at) (λ e. subst (λ q. StandsIn q []) (same_Some c.new.result p (sym (get_last self.places.items c.new.result) ∙ e)) c.new.ensures);
      others = λ j k e.
          let l = below self.numbers.items self.free.items _ self.once j k e in
          rw grown (get_before self.places.items c.new.result k (omega (arith, l, self.places.ok.0)));
    }
