use Rattle.std.proofs.Common.{replicate, length, arith}
use Rattle.std.proofs.lemmas.List.{length-take-le, length-replicate}
use Rattle.search.proofs.seek.search_in.Goals as goal

pub none-watchers-requires : goal.none-watchers-requires
none-watchers-requires g c = (omega arith, (c.requires.rules, (c.requires.words, c.requires.most)))

pub list_all-requires : goal.list_all-requires
list_all-requires g c = (omega arith, (c.requires.cells, (c.requires.rules, (c.requires.words, c.none-watchers.ensures _ c.requires.cells))))

pub search-requires : goal.search-requires
search-requires g c =
    let r = c.requires in
    let n = length c.args.level.now in (
      omega (arith, r.most),
      (
        r.sound,
        (
          r.few,
          (
            r.counts,
            (
              r.room,
              (
                c.list_all.ensures,
                (
                  λ q l. r.still q l,
                  length-take-le n (replicate g.row.CELLS c.default-room.result) (omega (arith, length-replicate g.row.CELLS c.default-room.result, r.cells)),
                ),
              ),
            ),
          ),
        ),
      ),
    )
