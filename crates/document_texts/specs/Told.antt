-- How frames are counted (this project's profile).
use Rattle.std.specs.Prelude.{◌≡◌, ℕ}
use Rattle.fh_document.specs.declared.delivered.TrafficClass.{TrafficClass}
use Rattle.document_traffic.specs.Sending.{SentCounts, count_of, counted}
use Rattle.document_texts.specs.declared.tally.Tally.{Tally}

-- the counts of the classes c and u
abbrev pub IsTally : SentCounts → Tally → Type 0
IsTally n t = (t.commands ≡ n.c_plane) × (t.fragments ≡ n.u_plane)

-- one frame of the class more, and its number in it
abbrev pub HasCounted : TrafficClass → Tally → Tally → ℕ → Type 0
HasCounted class old new k = (n : SentCounts) → IsTally n old → IsTally (counted class n) new × (k ≡ count_of class (counted class n))
