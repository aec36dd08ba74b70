-- A picture is of line feeds and printable ASCII.
use Rattle.std.proofs.Common.{◌≡◌, ℕ, List, refl, subst}
use Rattle.std.specs.Prelude.{Result, Ok, Err}
use Rattle.pictures.specs.declared.faults.TextWhy.{TextWhy}
use Rattle.pictures.specs.Rows.{rows_of}
use Rattle.pictures.specs.ArrivalText.{arrivals_of}
use Rattle.pictures.specs.declared.arrivals.Arrival.{Arrival}
use Rattle.pictures.specs.declared.windows.Windows.{Windows}
use Rattle.pictures.specs.Text.{grid_of}
use Rattle.pictures.specs.declared.endpoints.Endpoint.{Endpoint}
use Rattle.pictures.specs.Picture.{grid_picture, picture_for as grid_for}
use Rattle.pictures.specs.WindowPicture.{windows_picture, picture_for as windows_for}
use Rattle.picture_laws.specs.Laws.{GridsArePlain, WindowsArePlain, WindowsHavePanels}
use Rattle.picture_laws.specs.Parts.{HasPanels}
use Rattle.picture_laws.specs.Plain.{IsPlain}
use Rattle.picture_laws.proofs.PlainGrids.{grid_plain}
use Rattle.picture_laws.proofs.PlainReadings.{grid_read}
use Rattle.picture_laws.proofs.PlainWindows.{windows_plain}
use Rattle.picture_laws.proofs.WindowParts.{windows_made}
use Rattle.pictures.proofs.Drawn.{rows_columns}

pub grids_are_plain : GridsArePlain
grids_are_plain s text picture h = go (grid_of text) refl h
  where
    go : (x : Result (List Endpoint) (ℕ × TextWhy)) → grid_of text ≡ x → grid_for s text x ≡ Ok picture → IsPlain picture
    go (Ok es) is h =
        let same : grid_picture s es text ≡ picture = cc h in
        let read = grid_read text es is in
        subst IsPlain same (grid_plain s es text read.0 read.1)
    go (Err refusal) is h = cc

pub windows_are_plain : WindowsArePlain
windows_are_plain text picture h = go (arrivals_of text) h
  where
    go : (x : Result (Windows × List Arrival) (ℕ × TextWhy)) → windows_for x ≡ Ok picture → IsPlain picture
    go (Ok w) h = let same : windows_picture w.0 (rows_of w.1) ≡ picture = cc h in subst IsPlain same (windows_plain w.0 (rows_of w.1))
    go (Err refusal) h = cc

pub windows_have_panels : WindowsHavePanels
windows_have_panels text picture h = go (arrivals_of text) h
  where
    go : (x : Result (Windows × List Arrival) (ℕ × TextWhy)) → windows_for x ≡ Ok picture → HasPanels picture
    go (Ok w) h =
        let same : windows_picture w.0 (rows_of w.1) ≡ picture = cc h in
        subst HasPanels same (windows_made w.0 (rows_of w.1) (rows_columns w.1 (rows_of w.1) refl))
    go (Err refusal) h = cc
