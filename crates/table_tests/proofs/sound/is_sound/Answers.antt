-- `is_sound` meets its contract.
use mathlib.Core.List.{[]}
use native.Mathlib.Omega.{arith}
use mathlib.Core.Path.{sym, ◌∙◌}
use Rattle.rules.specs.Limits.{limits}
use Rattle.tables.specs.Tables.{state_of}
use Rattle.table_tests.proofs.SoundTests.{counts-low, listed-starts, unsound_counts, unsound_tables, sound_later, sound_early}
use Rattle.table_tests.proofs.sound.is_sound.Goals as goal

pub returns-then-not-counts_within : goal.returns-then-not-counts_within
returns-then-not-counts_within c z line id t =
    let counts = sym c.counts_within.ensures ∙ c.if-not-counts_within.true in
    unsound_counts limits _ counts

pub tables_listed-requires : goal.tables_listed-requires
tables_listed-requires c =
    let g = c.args.graph in
    let room = c.requires in
    let counts = sym c.counts_within.ensures ∙ c.if-not-counts_within.false in
    let low = counts-low limits g.node_count g.edge_count g.stage counts in
    record {
      few_edges = low.1;
      x_room = omega arith;
      y_room = omega arith;
      source_room = omega arith;
      target_room = omega arith;
      half_mark_room = omega arith;
      star_room = omega arith;
    }

pub returns-then-not-tables_listed : goal.returns-then-not-tables_listed
returns-then-not-tables_listed c z line id t =
    let counts = sym c.counts_within.ensures ∙ c.if-not-counts_within.false in
    let lists = sym c.tables_listed.ensures ∙ c.if-not-tables_listed.true in
    unsound_tables limits _ counts lists

pub returns-then-graph-gt1 : goal.returns-then-graph-gt1
returns-then-graph-gt1 c z line id t =
    let counts = sym c.counts_within.ensures ∙ c.if-not-counts_within.false in
    let lists = sym c.tables_listed.ensures ∙ c.if-not-tables_listed.false in
    sound_later limits _ counts lists c.if-graph-gt1.true

pub tables_fresh-requires : goal.tables_fresh-requires
tables_fresh-requires c =
    let a = c.args in
    let g = a.graph in
    let room = c.requires in
    let counts = sym c.counts_within.ensures ∙ c.if-not-counts_within.false in
    let lists = sym c.tables_listed.ensures ∙ c.if-not-tables_listed.false in
    let low = counts-low limits g.node_count g.edge_count g.stage counts in
    let s = state_of g a.nodes_x.now a.nodes_y.now [] a.nodes_degree.now a.nodes_marked.now [] []
    a.dir_edges_src.now a.dir_edges_dst.now a.dir_edges_marked.now a.nodes_outgoing.now (record { place = []; id = []; next = [] }) in
    record {
      few_nodes = low.0;
      few_edges = low.1;
      source_room = omega arith;
      degree_room = omega arith;
      node_mark_room = omega arith;
      half_mark_room = omega arith;
      starts = listed-starts limits s lists;
    }

pub returns : goal.returns
returns c z line id t =
    let counts = sym c.counts_within.ensures ∙ c.if-not-counts_within.false in
    let lists = sym c.tables_listed.ensures ∙ c.if-not-tables_listed.false in
    c.tables_fresh.ensures ∙ sound_early limits _ counts lists c.if-graph-gt1.false
