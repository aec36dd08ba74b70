-- The document that a generated text says.
use Rattle.std.specs.Prelude.{◌≡◌, ℕ, zero, suc, pos, ◌+◌, ◌*◌, ◌%◌, ◌^◌, ◌<◌, ◌≤◌, List, [], ◌∷◌, Some, Ok}
use Rattle.fh_document.specs.declared.delivered.TrafficClass.TheVariants.{U}
use Rattle.fh_document.specs.declared.delivered.Delivery.{Delivery}
use Rattle.fh_document.specs.declared.document.Document.{Document}
use Rattle.fh_document.specs.Document.{document_of}
use Rattle.fh_document.specs.Generated.{generated}
use Rattle.air_source.specs.declared.events.Side.TheVariants.{Ru}
use Rattle.plan_model.specs.Valid.{IsValid}
use Rattle.generated_laws.specs.Plans.{config, lines_from}

-- so many numbers from one on
unfoldable pub numbers_from : ℕ → ℕ → List ℕ
numbers_from n zero = []
numbers_from n (suc count) = n ∷ numbers_from (n + 1) count

-- one frame of data in ten, which is received twice
abbrev pub delivery_of : ℕ → ℕ → Delivery
delivery_of seed j = record { side = Ru; class = U; k = 1 + 10 * j + seed % 10; copies = pos 50000 ∷ pos 60000 ∷ [] }

unfoldable pub deliveries_from : ℕ → ℕ → ℕ → List Delivery
deliveries_from seed j zero = []
deliveries_from seed j (suc count) = delivery_of seed j ∷ deliveries_from seed (j + 1) count

-- the plan begins in line 8
abbrev pub document : ℕ → ℕ → Document
document seed slots = record {
  config = config;
  plan = lines_from 0 slots;
  plan_lines = numbers_from 8 (4 * slots);
  source = record { seed = seed; amplitude = 1000 };
  antenna = record { seed = seed; amplitude = 1000 };
  comps = record { du_sending = pos 0; du_receiving = pos 0; ru_sending = pos 0; ru_receiving = pos 0 };
  transits = record { dl = Some (pos 50000); ul = Some (pos 50000); m = pos 50000 };
  deliveries = deliveries_from seed 0 slots;
  injections = [];
  measures = [];
}

-- what is generated is read as this document
abbrev pub GeneratedAreRead : Type 0
GeneratedAreRead = (seed slots : ℕ) → seed < 2 ^ 32 → 1 ≤ slots → slots ≤ 400 → document_of (generated seed slots) ≡ Ok (document seed slots)

-- and its plan is valid
pub record IsGenerated (seed slots : ℕ) (d : Document) : Type 0 where
  pub read : document_of (generated seed slots) ≡ Ok d
  pub valid : IsValid d.config d.plan

abbrev pub GeneratedAreValid : Type 0
GeneratedAreValid = (seed slots : ℕ) → seed < 2 ^ 32 → 1 ≤ slots → slots ≤ 400 → (d : Document) × IsGenerated seed slots d
