use Rattle.bt_lines.proofs.Std.{◌≡◌, ◌∙◌, ap, arith}
use Rattle.bt_tool.specs.calls.Given.{items_of_words}
use Rattle.bt_tool.specs.model.Options.{Named, named_by}
use Rattle.bt_tool.specs.model.Table.{table_of, tool_of}
use Rattle.bt_tool.proofs.lemmas.Options.{named, named-output, tool-by}
use Rattle.bt_tool.proofs.planning.made.Goals as goal

pub invariant_of-result : goal.invariant_of-result
invariant_of-result c =
    let tool = c.args.tool in
    let given = c.args.given in
    let names = c.names_of-names.ensures ∙ ap (λ t. named_by t (items_of_words given)) c.requires.table in
    let is : tool_of c.command.result ≡ tool = ap tool_of c.command.ensures.asked ∙ tool-by tool (items_of_words given) in
    record {
      limits = c.command.ensures.limits;
      genome_named = rw is (named given (table_of tool) (table_of tool).genome c.in_ok-genome.genome c.requires.table c.requires.whole
          (grind arith) (c.in_ok-genome.ensures ∙ ap (λ (n : Named). n.genome) names));
      second_named = rw is (named given (table_of tool) (table_of tool).second c.in_ok-second.second c.requires.table c.requires.whole
          (grind arith) (c.in_ok-second.ensures ∙ ap (λ (n : Named). n.second) names));
      output_named = rw is (named-output tool (items_of_words given) c.in_ok-output.output
          (c.in_ok-output.ensures ∙ ap (λ (n : Named). n.output) names));
    }
