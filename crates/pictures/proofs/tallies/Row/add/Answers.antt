use Rattle.std.proofs.Common.{sym, ap, subst, ◌∙◌, arith}
use Rattle.pictures.specs.Counts.{IsBelow, counted}
use Rattle.pictures.specs.Tallies.{Tally, marked, marked_both, measured}
use Rattle.pictures.proofs.Tallying.{last_within, same_sections, sections_below, tally_below, tally_length, tally_more, tally_parts}
use Rattle.pictures.proofs.tallies.Row.add.Goals as goal

pub mark_both-requires-clause-first : goal.mark_both-requires-clause-first
mark_both-requires-clause-first c = let s = c.requires.few in omega (arith, tally_length s.0 c.args.self.now s.1, c.requires.first)

pub mark_both-requires-clause-last : goal.mark_both-requires-clause-last
mark_both-requires-clause-last c = let s = c.requires.few in last_within c.args.a.last _ (tally_length s.0 c.args.self.now s.1) c.requires.last

pub mark_both-requires-clause-few : goal.mark_both-requires-clause-few
mark_both-requires-clause-few c column = let s = c.requires.few in tally_below s.0 c.args.self.now column s.1 s.2

pub count-self-inside-requires : goal.count-self-inside-requires
count-self-inside-requires c =
    let s = c.requires.few in
    let t = c.args.self.now in
    let a = c.args.a in
    subst (IsBelow 2000000000) (sym (ap (λ (x : Tally). x.sections) (c.self.view_is ∙ c.mark_both.ensures) ∙ same_sections (marked t a.first a.kind) a.kind a.last)) (sections_below s.0 t s.1 s.2)

pub returns : goal.returns
returns c came is =
    let t = c.args.self.now in
    let a = c.args.a in
    let view = c.self.view_is ∙ c.mark_both.ensures in
    tally_more came a t c.measure.new.self is
    (c.measure.ensures
    ∙ ap (λ (x : Tally). measured x a)
    (tally_parts _ _ _ _ (marked_both t a) (counted a.kind t.sections) (ap (λ (x : Tally). x.columns) view)
    (c.count-self-inside.ensures ∙ ap (λ (x : Tally). counted a.kind x.sections) view ∙ ap (counted a.kind) (same_sections (marked t a.first a.kind) a.kind a.last))
    (ap (λ (x : Tally). x.since) view) (ap (λ (x : Tally). x.until) view)))
