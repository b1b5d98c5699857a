-- A body as the program holds it: its kind, and its bytes.
use Rattle.std.specs.Prelude.{ℕ, List}
use Rattle.records.specs.Forms.{Form, cells_form, plates_form, triples_form, totals_form}
use Rattle.job.specs.declared.body.Body.{Body}
use Rattle.job.specs.declared.body.Body.TheVariants.{Cells, Plates, Triples, Totals}

abbrev pub body_form : Body → Form
body_form (Cells b) = cells_form
body_form (Plates b) = plates_form
body_form (Triples b) = triples_form
body_form (Totals b) = totals_form

abbrev pub body_bytes : Body → List ℕ
body_bytes (Cells b) = b.now
body_bytes (Plates b) = b.now
body_bytes (Triples b) = b.now
body_bytes (Totals b) = b.now
