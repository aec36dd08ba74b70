-- How far lines were taken after what notes them.
use Rattle.std.proofs.Common.{◌≡◌, List, [], ◌∷◌, ◌++◌, ◌⊎◌, inl, inr, subst, append-nil}
use Rattle.explain_air.specs.Notes.{HasNoted}
use Rattle.explain_air.specs.declared.notes.Noting.{Noting}
use Rattle.explain_model.specs.declared.values.ExplainLine.{ExplainLine}
use Rattle.explain_heard.specs.Stops.{StopsInLine, StopsSome, Between, Within}

module _ {W : Type 0} (grew : W → List ExplainLine → W → Type 0) (stopped : W → ExplainLine → W → Type 0)
    (more : (a b c : W) (first second : List ExplainLine) → grew a first b → grew b second c → grew a (first ++ second) c) where
  abbrev noting_grew : Noting W → List ExplainLine → Noting W → Type 0
  noting_grew a lines b = grew a.out.now lines b.out.now × HasNoted a.notes.now lines b.notes.now

  abbrev noting_stopped : Noting W → ExplainLine → Noting W → Type 0
  noting_stopped a l b = stopped a.out.now l b.out.now ⊎ grew a.out.now [] b.out.now

  by_stop : (lines before after : List ExplainLine) (l : ExplainLine) (a m b : W) → lines ≡ before ++ l ∷ after → grew a before m → stopped m l b ⊎ grew m [] b
      → StopsSome grew stopped lines a b
  by_stop lines before after l a m b is heard (inl stop) = Within (record { before = before; line = l; after = after; is = is; middle = m; heard = heard; stop = stop })
  by_stop lines before after l a m b is heard (inr same) = Between (record {
    before = before;
    after = l ∷ after;
    is = is;
    heard = subst (λ (ls : List ExplainLine). grew a ls b) (append-nil before) (more a m b before [] heard same);
  })

  pub noting_stops : (lines : List ExplainLine) (a b : Noting W) → StopsSome noting_grew noting_stopped lines a b → StopsSome grew stopped lines a.out.now b.out.now
  noting_stops lines a b (Between t) = Between (record { before = t.before; after = t.after; is = t.is; heard = t.heard.0 })
  noting_stops lines a b (Within s) = by_stop lines s.before s.after s.line a.out.now s.middle.out.now b.out.now s.is s.heard.0 s.stop

  -- where it stopped in one of them
  pub noting_line_stops : (lines : List ExplainLine) (a b : Noting W) → StopsInLine noting_grew noting_stopped lines a b → StopsSome grew stopped lines a.out.now b.out.now
  noting_line_stops lines a b s = noting_stops lines a b (Within s)
