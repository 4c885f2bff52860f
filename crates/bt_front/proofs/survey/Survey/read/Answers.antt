use Rattle.bt_lines.proofs.Std.{◌∙◌, ap, sym}
use Rattle.bt_lines.specs.calls.Reader.{source_of}
use Rattle.bt_front.proofs.lemmas.survey.ReadLemmas.{ends_odd, found_odd, leaves, surveyed, watching}
use Rattle.bt_front.proofs.survey.Survey.read.Goals as goal

pub returns-in-None : goal.returns-in-None
returns-in-None g c =
    let watched = c.into_source-watched.result in
    let is = c.into_source-watched.ensures ∙ ap source_of c.into_reader.ensures in
    let reader = c.new-reader.ensures in
    let blocks = c.new-blocks.ensures in
    let so = watching g.S.Source c.args.source c.new.result c.new-reader.result c.new-blocks.result c.new.ensures.source c.new.ensures.shows reader.source reader.going.2 reader.input reader.lines blocks.below (blocks.good reader.going.0) in
    surveyed g.S.Source c.args.source c.new-blocks.result c.see_all-seen.new.blocks watched c.into_source.result so is c.into_source.ensures c.see_all-seen.new.self c.in-Ok.ensures c.in-None.ensures

pub returns-in-Ok : goal.returns-in-Ok
returns-in-Ok g c =
    let watched = c.into_source-watched.result in
    let is = c.into_source-watched.ensures ∙ ap source_of c.into_reader.ensures in
    let reader = c.new-reader.ensures in
    let blocks = c.new-blocks.ensures in
    let so = watching g.S.Source c.args.source c.new.result c.new-reader.result c.new-blocks.result c.new.ensures.source c.new.ensures.shows reader.source reader.going.2 reader.input reader.lines blocks.below (blocks.good reader.going.0) in
    ends_odd g.S.Source c.args.source c.new-blocks.result c.see_all-seen.new.blocks watched c.into_source-in-Some.result so is c.into_source-in-Some.ensures c.see_all-seen.new.self c.in-Some.odd c.in-Ok.ensures c.in-Some.ensures

pub returns-in-None-found : goal.returns-in-None-found
returns-in-None-found g c =
    let watched = c.into_source-watched.result in
    let is = c.into_source-watched.ensures ∙ ap source_of c.into_reader.ensures in
    let reader = c.new-reader.ensures in
    let blocks = c.new-blocks.ensures in
    let so = watching g.S.Source c.args.source c.new.result c.new-reader.result c.new-blocks.result c.new.ensures.source c.new.ensures.shows reader.source reader.going.2 reader.input reader.lines blocks.below (blocks.good reader.going.0) in
    leaves g.S.Source c.args.source c.new-blocks.result c.see_all-seen.new.blocks watched c.into_source-in-None-found.result so is c.into_source-in-None-found.ensures c.in-Err.trouble c.in-Err.ensures

pub returns : goal.returns
returns g c =
    let watched = c.into_source-watched.result in
    let is = c.into_source-watched.ensures ∙ ap source_of c.into_reader.ensures in
    let reader = c.new-reader.ensures in
    let blocks = c.new-blocks.ensures in
    let so = watching g.S.Source c.args.source c.new.result c.new-reader.result c.new-blocks.result c.new.ensures.source c.new.ensures.shows reader.source reader.going.2 reader.input reader.lines blocks.below (blocks.good reader.going.0) in
    found_odd g.S.Source c.args.source c.new-blocks.result c.see_all-seen.new.blocks watched c.into_source-in-Some-found.result so is c.into_source-in-Some-found.ensures c.in-Some-found.odd c.in-Err.trouble c.in-Err.ensures (sym c.in-Some-found.ensures)
