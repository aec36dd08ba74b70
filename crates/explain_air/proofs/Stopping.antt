-- How far lines were taken, of a part of some lines and of all.
use Rattle.std.proofs.Common.{List, [], ◌∷◌, ◌++◌, ◌⊎◌, inl, inr, refl, sym, ap, ◌∙◌, append_assoc, append-nil}
use Rattle.std.specs.Prelude.{IfErr, Result, Ok, Err}
use Rattle.explain_model.specs.declared.values.ExplainLine.{ExplainLine}
use Rattle.explain_heard.specs.Stops.{StopsSome, Between, Within, StopsInLine}

-- what is so of each fault
pub if_err_all : {T E : Type 0} {P : E → Type 0} (r : Result T E) → ((f : E) → P f) → IfErr r P
if_err_all (Ok x) all = tt
if_err_all (Err f) all = all f

module _ {W : Type 0} (grew : W → List ExplainLine → W → Type 0) (stopped : W → ExplainLine → W → Type 0) where
  -- in one line, or before it
  pub some_one : ((a : W) → grew a [] a) → (a b : W) (l : ExplainLine) → stopped a l b ⊎ grew a [] b → StopsSome grew stopped (l ∷ []) a b
  some_one none a b l (inl stop) = Within (record { before = []; line = l; after = []; is = refl; middle = a; heard = none a; stop = stop })
  some_one none a b l (inr same) = Between (record { before = []; after = l ∷ []; is = refl; heard = same })

  -- before the first
  pub some_nothing : ((a : W) → grew a [] a) → (lines : List ExplainLine) (a : W) → StopsSome grew stopped lines a a
  some_nothing none lines a = Between (record { before = []; after = lines; is = refl; heard = none a })

  -- in one of them
  pub some_line : (lines : List ExplainLine) (a b : W) → StopsInLine grew stopped lines a b → StopsSome grew stopped lines a b
  some_line lines a b s = Within s

  -- some of the first lines, whatever follows
  pub some_first : (first second : List ExplainLine) (a b : W) → StopsSome grew stopped first a b → StopsSome grew stopped (first ++ second) a b
  some_first first second a b (Between t) = Between (record {
    before = t.before;
    after = t.after ++ second;
    is = ap (λ (ls : List ExplainLine). ls ++ second) t.is ∙ append_assoc t.before t.after second;
    heard = t.heard;
  })
  some_first first second a b (Within s) = Within (record {
    before = s.before;
    line = s.line;
    after = s.after ++ second;
    is = ap (λ (ls : List ExplainLine). ls ++ second) s.is ∙ append_assoc s.before (s.line ∷ s.after) second;
    middle = s.middle;
    heard = s.heard;
    stop = s.stop;
  })

  module _ (more : (a b c : W) (first second : List ExplainLine) → grew a first b → grew b second c → grew a (first ++ second) c) where
    -- all of the first lines, and some of the second
    pub some_second : (first second : List ExplainLine) (a m b : W) → grew a first m → StopsSome grew stopped second m b → StopsSome grew stopped (first ++ second) a b
    some_second first second a m b took (Between t) = Between (record {
      before = first ++ t.before;
      after = t.after;
      is = ap (λ (ls : List ExplainLine). first ++ ls) t.is ∙ sym (append_assoc first t.before t.after);
      heard = more a m b first t.before took t.heard;
    })
    some_second first second a m b took (Within s) = Within (record {
      before = first ++ s.before;
      line = s.line;
      after = s.after;
      is = ap (λ (ls : List ExplainLine). first ++ ls) s.is ∙ sym (append_assoc first s.before (s.line ∷ s.after));
      middle = s.middle;
      heard = more a m s.middle first s.before took s.heard;
      stop = s.stop;
    })

    -- all of the lines that matter, and nothing more
    pub some_none : (lines : List ExplainLine) (a b : W) → grew a lines b → StopsSome grew stopped lines a b
    some_none lines a b took = Between (record { before = lines; after = []; is = sym (append-nil lines); heard = took })
