-- What is kept of a unit's fragments goes on as they are received.
use Rattle.std.proofs.Common.{◌≡◌, ◌≢◌, ℕ, ℤ, ◌+◌, ◌*◌, ◌<◌, Bool, true, false, List, [], ◌∷◌, ◌++◌, length, map, set, refl, sym, ap, ap₂, ◌∙◌, subst, append-nil, arith}
use Rattle.std.specs.Prelude.{◌&&◌, ◌==◌, Option, Some, None, slice_get}
use Rattle.std.proofs.lemmas.Bool.{and_from, eq-eqb}
use Rattle.std.proofs.lemmas.List.{get_or-set_same, length-set}
use Rattle.std.proofs.lemmas.Option.{slice_get_within, get_or_from_slice_get}
use Rattle.fh_base.specs.declared.values.Slot.{Slot}
use Rattle.ecpri_fragments.specs.Generations.{Fragment, Generation, generations_of, held_in, is_of, start_in}
use Rattle.ecpri_fragments.specs.Verdicts.{standing, verdict_on}
use Rattle.fh_base.specs.Lists.{onto}
use Rattle.air_source.specs.declared.events.Side.{Side}
use Rattle.explain_model.specs.declared.headers.RepeatedRecord.{RepeatedRecord}
use Rattle.explain_model.specs.Fragments.{NumberedFragment, first_named, fragments_alone, has_stood, last_begun}
use Rattle.explain_records.specs.Beginnings.{Begun, Growing, begun_after, begun_if, begun_once}
use Rattle.explain_records.specs.Places.{IsOnly}
use Rattle.explain_records.specs.declared.generations.LastGeneration.{LastGeneration}
use Rattle.explain_records.specs.declared.beginnings.Beginning.{Beginning}
use Rattle.explain_records.specs.Turns.{begun_next, found, last_next, repeats, told_by}
use Rattle.explain_records.specs.Tables.{IsKeptOf, KeepsOf, is_current, kept_of}
use Rattle.explain_records.specs.Recorded.{Recorded, backwards}
use Rattle.explain_records.proofs.PlaceLemmas.{only_map, only_more, only_same}
use Rattle.explain_records.proofs.GrowingLemmas.{alone_more, begun_more, onto_more, repeated_more}
use Rattle.explain_records.proofs.CurrentLemmas.{all_become, all_current, more_of, other_same, same_ep, same_seq}
use Rattle.explain_records.proofs.FirstLemmas.{repeats_are}
use Rattle.explain_records.proofs.StepLemmas.{Finds, Next, entered, finds, next, with_is}
use Rattle.ecpri_fragments.proofs.Numbers.{get_other as set_rest}
use Rattle.ecpri_fragments.proofs.Ids.{same_id}

-- ---- another sequence id

module _ (hold : ℤ) (x : NumberedFragment) (g : Growing) (ep seq : ℕ) (other : is_of ep seq x.fragment ≡ false) where
  abbrev all_of : Bool → Option (Slot × ℕ) → List Begun → List Begun
  all_of stood named bs = map (begun_once hold x.fragment) bs ++ begun_if stood x g named

  only_rest : (k : Option ℕ) (bs : List Begun) (stood : Bool) (named : Option (Slot × ℕ)) → IsOnly (is_current ep seq) k bs → IsOnly (is_current ep seq) k (all_of stood named bs)
  only_rest k bs stood named h =
      let moved : IsOnly (is_current ep seq) k (map (begun_once hold x.fragment) bs)
      = only_map (begun_once hold x.fragment) (is_current ep seq) k bs
      (only_same (λ b. is_current ep seq (begun_once hold x.fragment b)) (is_current ep seq) k bs (other_same hold ep seq x.fragment other bs) h) in
      behind stood named moved
    where
      behind : (stood : Bool) (named : Option (Slot × ℕ)) → IsOnly (is_current ep seq) k (map (begun_once hold x.fragment) bs) → IsOnly (is_current ep seq) k (all_of stood named bs)
      behind false named m = subst (λ (es : List Begun). IsOnly (is_current ep seq) k es) (sym (append-nil (map (begun_once hold x.fragment) bs))) m
      behind true None m = subst (λ (es : List Begun). IsOnly (is_current ep seq) k es) (sym (append-nil (map (begun_once hold x.fragment) bs))) m
      behind true (Some (slot, symbol)) m =
          only_more (is_current ep seq) k (map (begun_once hold x.fragment) bs) (record { first = x; slot = slot; symbol = symbol; growing = g }) m
          (ap (λ (b : Bool). b && g.is_last) other)

  kept_rest : (bs : List Begun) (stood : Bool) (named : Option (Slot × ℕ)) (o : Option LastGeneration) (gs : List Generation) → IsKeptOf bs ep seq o gs → IsKeptOf (all_of stood named bs) ep seq o gs
  kept_rest bs stood named None [] h = tt
  kept_rest bs stood named None (k ∷ gs) h = absurd h
  kept_rest bs stood named (Some l) [] h = absurd h
  kept_rest bs stood named (Some l) (k ∷ gs) h =
      record { start = h.start; first = h.first; pieces = h.pieces; place = only_rest l.place bs stood named h.place; none = h.none }

-- ---- places

same_place : (ep seq e s : ℕ) → seq < 256 → s < 256 → ep * 256 + seq ≡ e * 256 + s → (e ≡ ep) × (s ≡ seq)
same_place ep seq e s h k is = (omega arith, omega arith)

set_own : {A : Type 0} (xs : List A) (i : ℕ) (new o : A) → slice_get (set xs i new) i ≡ Some o → new ≡ o
set_own xs i new o e =
    let within : i < length xs = subst (λ (n : ℕ). i < n) (length-set xs i new) (slice_get_within (set xs i new) i o e) in
    sym (get_or-set_same xs i new new within) ∙ get_or_from_slice_get (set xs i new) i o new e

-- ---- one fragment more

module _ (side : Side) (hold : ℤ) (xs : List NumberedFragment) (x : NumberedFragment) where
  abbrev f : Fragment
  f = x.fragment

  abbrev fs : List Fragment
  fs = backwards xs

  abbrev bs : List Begun
  bs = begun_after side hold [] xs

  abbrev gs : List Generation
  gs = generations_of hold f.ep f.seq fs

  abbrev grown : Growing
  grown = record { generation = entered hold f gs; is_last = true }

  abbrev named : Option (Slot × ℕ)
  named = first_named side x.endpoint f

  abbrev after : List Begun
  after = map (begun_once hold f) bs ++ begun_if (has_stood x.verdict) x grown named

  backwards_more : backwards (xs ++ x ∷ []) ≡ f ∷ fs
  backwards_more = ap (λ (es : List Fragment). onto [] es) (alone_more xs x) ∙ onto_more [] (fragments_alone xs) f

  begun_is : begun_after side hold [] (xs ++ x ∷ []) ≡ after
  begun_is =
      begun_more side hold xs [] x
      ∙ ap (λ (hs : List Generation). map (begun_once hold f) bs ++ begun_if (has_stood x.verdict) x (record { generation = last_begun hs f; is_last = true }) named) (with_is hold f gs)

  module _ (last : List (Option LastGeneration)) (begun : List Beginning) (repeated : List RepeatedRecord) (o : Option LastGeneration) (low : f.seq < 256)
      (there : slice_get last (f.ep * 256 + f.seq) ≡ Some o) (is : x.verdict ≡ verdict_on hold f fs) (was : Recorded side hold xs last begun repeated) where
    abbrev l : LastGeneration
    l = found hold (record { 0 = f.at }) o

    finds_it : Finds hold f bs (start_in hold f.at gs) (standing (held_in hold f.at gs)) l
    finds_it = finds hold f bs gs o (all_become hold fs f bs (all_current side hold xs [])) (was.generations f.ep f.seq o low there)

    next_is : Next side hold x gs bs l (all_become hold fs f bs (all_current side hold xs [])) finds_it (has_stood x.verdict)
    next_is = next side hold x gs bs l (all_become hold fs f bs (all_current side hold xs [])) finds_it is

    abbrev new_last : LastGeneration
    new_last = last_next (told_by side x) l (length begun)

    own_kept : IsKeptOf after f.ep f.seq (Some new_last) (generations_of hold f.ep f.seq (f ∷ fs))
    own_kept =
        subst (λ (hs : List Generation). IsKeptOf after f.ep f.seq (Some new_last) hs) (sym (more_of hold f.ep f.seq f fs true (same_id f) ∙ with_is hold f gs))
        (subst (λ (n : ℕ). KeepsOf after f.ep f.seq (last_next (told_by side x) l n) (entered hold f gs)) (sym (ap (λ (bs : List Beginning). length bs) was.beginnings)) next_is.last_is)

    any_kept : (ep seq : ℕ) (p : Option LastGeneration) (own : Bool) → is_of ep seq f ≡ own → seq < 256
        → slice_get (set last (f.ep * 256 + f.seq) (Some new_last)) (ep * 256 + seq) ≡ Some p → IsKeptOf after ep seq p (generations_of hold ep seq (f ∷ fs))
    any_kept ep seq p true own small e =
        let n : f.ep ≡ ep = same_ep ep seq f own in
        let m : f.seq ≡ seq = same_seq ep seq f own in
        let e2 : slice_get (set last (f.ep * 256 + f.seq) (Some new_last)) (f.ep * 256 + f.seq) ≡ Some p
        = ap₂ (λ (a b : ℕ). slice_get (set last (f.ep * 256 + f.seq) (Some new_last)) (a * 256 + b)) n m ∙ e in
        let q : Some new_last ≡ p = set_own last (f.ep * 256 + f.seq) (Some new_last) p e2 in
        subst (λ (r : Option LastGeneration). IsKeptOf after ep seq r (generations_of hold ep seq (f ∷ fs))) q
        (subst (λ (b : ℕ). IsKeptOf after ep b (Some new_last) (generations_of hold ep b (f ∷ fs))) m
        (subst (λ (a : ℕ). IsKeptOf after a f.seq (Some new_last) (generations_of hold a f.seq (f ∷ fs))) n own_kept))
    any_kept ep seq p false own small e =
        let differ : ep * 256 + seq ≢ f.ep * 256 + f.seq
        = λ at.
        let same = same_place ep seq f.ep f.seq small low at in
        let is : is_of ep seq f ≡ true = and_from (f.ep == ep) (f.seq == seq) (eq-eqb f.ep ep same.0) (eq-eqb f.seq seq same.1) in
        let wrong : true ≡ false = sym is ∙ own in
        absurd (cc) in
        subst (λ (hs : List Generation). IsKeptOf after ep seq p hs) (sym (more_of hold ep seq f fs false own))
        (kept_rest hold x grown ep seq own bs (has_stood x.verdict) named p (generations_of hold ep seq fs)
        (was.generations ep seq p small (set_rest last (f.ep * 256 + f.seq) (ep * 256 + seq) (Some new_last) p differ e)))

    pub goes_on : Recorded side hold (xs ++ x ∷ []) (set last (f.ep * 256 + f.seq) (Some new_last)) (begun_next side (told_by side x) l begun) (repeated ++ repeats side (told_by side x) l)
    goes_on = record {
      generations = λ ep seq p small e.
          subst (λ (es : List Fragment). IsKeptOf (begun_after side hold [] (xs ++ x ∷ [])) ep seq p (generations_of hold ep seq es)) (sym backwards_more)
          (subst (λ (cs : List Begun). IsKeptOf cs ep seq p (generations_of hold ep seq (f ∷ fs))) (sym begun_is) (any_kept ep seq p (is_of ep seq f) refl small e));
      beginnings = ap (λ (bs : List Beginning). begun_next side (told_by side x) l bs) was.beginnings ∙ sym next_is.kept_is ∙ sym (ap (map (kept_of side)) begun_is);
      repeats = ap₂ (λ (a b : List RepeatedRecord). a ++ b) was.repeats (repeats_are side x hold fs l finds_it.first) ∙ sym (repeated_more side hold xs [] x);
    }
