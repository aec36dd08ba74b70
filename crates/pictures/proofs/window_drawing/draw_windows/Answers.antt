use Rattle.pictures.proofs.Drawn.{rows_columns}
use Rattle.pictures.proofs.window_drawing.draw_windows.Goals as goal

pub write_picture-requires : goal.write_picture-requires
write_picture-requires g c = let s = c.in-Ok.ensures in rows_columns s.0 c.in-Ok.gathered.rows s.2
