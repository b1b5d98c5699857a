use Rattle.std.proofs.Common.{rules, ◌≡◌, length}
use Rattle.boards.specs.Opening.{job_rows}
use Rattle.boards.proofs.Opened.{rows_counted, fits_job, opened, never_unfit}
use Rattle.boards.proofs.laid_out.Goals as goal

pub unreachable-requires : goal.unreachable-requires
unreachable-requires c =
    let all : c.from.result ≡ length (job_rows c.args.job.now) = search (rules, rows_counted) in
    never_unfit (job_rows c.args.job.now) c.args.rows c.args.saved c.fill.new.rows c.from.result (search rules) all c.fill.ensures.front (search rules)
    (fits_job c.args.job.now _ _ c.requires.rows c.requires.trials) c.in_default.field-0 c.in_default.ensures

pub returns : goal.returns
returns c =
    let all : c.from.result ≡ length (job_rows c.args.job.now) = search (rules, rows_counted) in
    opened (job_rows c.args.job.now) c.args.rows c.args.saved c.fill.new.rows c.from.result (search rules) all c.fill.ensures.front (search rules)
    (fits_job c.args.job.now _ _ c.requires.rows c.requires.trials) c.in-Ok.board c.in-Ok.ensures
