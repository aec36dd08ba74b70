-- The laws of text that is carried to a sink.
use Rattle.std.specs.Prelude.{ℕ, List, [], ◌++◌, Option}
use Rattle.std.proofs.Common.{sym, ap, append_assoc, append-nil, ◌∙◌}
use Rattle.std.specs.Io.KnownBytes.{append_known}
use Rattle.fh_base.specs.KnownLaws.{append_twice, append_nothing}
use Rattle.fh_base.specs.Owed.{Carried}

-- where nothing was told, nothing was carried
pub carried_none : (written : Option (List ℕ)) (owed : List ℕ) → Carried written owed [] written owed
carried_none written owed = record { pushed = []; writes = sym (append_nothing written); splits = sym (append-nil owed) }

-- carrying one text and then another is carrying both
pub carried_more : (a b c : Option (List ℕ)) (o p q first second : List ℕ) → Carried a o first b p → Carried b p second c q → Carried a o (first ++ second) c q
carried_more a b c o p q first second h k = record {
  pushed = h.pushed ++ k.pushed;
  writes = k.writes ∙ ap (λ x. append_known x k.pushed) h.writes ∙ append_twice a h.pushed k.pushed;
  splits =
      append_assoc h.pushed k.pushed q
      ∙ ap (λ x. h.pushed ++ x) k.splits
      ∙ sym (append_assoc h.pushed p second)
      ∙ ap (λ x. x ++ second) h.splits
      ∙ append_assoc o first second;
}
