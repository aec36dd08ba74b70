-- The laws of noting.
use Rattle.std.specs.Prelude.{List, [], ◌++◌}
use Rattle.std.specs.List.{flat_map}
use Rattle.std.proofs.Common.{refl, sym, ap, subst, ◌∙◌, append-nil, append_assoc}
use Rattle.std.proofs.lemmas.List.Concat.{flat_map-append}
use Rattle.explain_air.specs.Notes.{AreNotes, HasNoted, cells_in}
use Rattle.explain_air.specs.declared.notes.Notes.{Notes}
use Rattle.explain_model.specs.declared.values.ExplainLine.{ExplainLine}
use Rattle.explain_model.specs.declared.runs.CellRun.{CellRun}
use Rattle.why_lines.specs.Sums.{AreSums}
use Rattle.window_config.specs.declared.endpoints.EndpointConfig.{EndpointConfig}

pub noted_none : (n : Notes) → HasNoted n [] n
noted_none n = record {
  endpoints = refl;
  sums = λ es before are. subst (λ (ls : List ExplainLine). AreSums es ls n.sums) (sym (append-nil before)) are;
  cells = sym (append-nil n.cells);
}

pub noted_more : (a b c : Notes) (first second : List ExplainLine) → HasNoted a first b → HasNoted b second c → HasNoted a (first ++ second) c
noted_more a b c first second h k = record {
  endpoints = k.endpoints ∙ h.endpoints;
  sums = λ es before are.
      subst (λ (ls : List ExplainLine). AreSums es ls c.sums) (append_assoc before first second) (k.sums es (before ++ first) (h.sums es before are));
  cells =
      k.cells ∙ ap (λ (es : List EndpointConfig). b.cells ++ flat_map (cells_in es) second) h.endpoints
      ∙ ap (λ (rs : List CellRun). rs ++ flat_map (cells_in a.endpoints.items) second) h.cells
      ∙ append_assoc a.cells (flat_map (cells_in a.endpoints.items) first) (flat_map (cells_in a.endpoints.items) second)
      ∙ ap (λ (rs : List CellRun). a.cells ++ rs) (sym (flat_map-append (cells_in a.endpoints.items) first second));
}

-- what is noted of some lines, and then more, is noted of both
pub notes_more : (es : List EndpointConfig) (lines more : List ExplainLine) (a b : Notes) → AreNotes es lines a → HasNoted a more b → AreNotes es (lines ++ more) b
notes_more es lines more a b are h = record {
  endpoints = h.endpoints ∙ are.endpoints;
  sums = h.sums es lines are.sums;
  cells =
      h.cells ∙ ap (λ (xs : List EndpointConfig). a.cells ++ flat_map (cells_in xs) more) are.endpoints
      ∙ ap (λ (rs : List CellRun). rs ++ flat_map (cells_in es) more) are.cells
      ∙ sym (flat_map-append (cells_in es) lines more);
}
