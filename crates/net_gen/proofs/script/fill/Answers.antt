use Rattle.std.proofs.Common.{[], ◌++◌}
use Rattle.std.proofs.lemmas.Result.{on_ok_weaker}
use Rattle.net_gen.specs.Generated.{failure, links_of, sends_at, tree_of}
use Rattle.net_gen.proofs.MadeLemmas.{linked, only_links, only_low, with_hosts, is_made, may_send, has_first, more_made, none_yet, sent_once, failed_once, whole}
use Rattle.net_gen.proofs.script.fill.Goals as goal

pub add_links-requires-clause-made : goal.add_links-requires-clause-made
add_links-requires-clause-made c =
    only_links c.args.count (tree_of c.new-draw.result c.args.count).links c.add_tree.new.script c.in_ok-add_tree.ensures.links

pub add_hosts-requires : goal.add_hosts-requires
add_hosts-requires c =
    let all = linked c.args.count c.args.seed c.new-draw.result c.add_tree.new.draw c.add_tree.new.script c.add_links.new.script c.new-draw.ensures c.in_ok-add_tree.ensures.links c.in_ok-add_tree.ensures.seed c.in_ok-add_links.ensures in
    record {
      made = only_links c.args.count (links_of c.args.seed c.args.count) c.add_links.new.script all;
      low = only_low c.args.seed c.args.count c.add_links.new.script all;
      most = c.requires.most;
    }

pub add_sends-requires : goal.add_sends-requires
add_sends-requires c =
    let all = linked c.args.count c.args.seed c.new-draw.result c.add_tree.new.draw c.add_tree.new.script c.add_links.new.script c.new-draw.ensures c.in_ok-add_tree.ensures.links c.in_ok-add_tree.ensures.seed c.in_ok-add_links.ensures in
    let hosts = with_hosts c.args.count _ c.add_links.new.script c.add_hosts.new.script all c.in_ok-add_hosts.ensures in
    record { made = is_made c.args.count _ [] c.add_hosts.new.script hosts; most = c.requires.most; can = may_send c.args.count 10 _ [] c.add_hosts.new.script hosts none_yet }

pub add_failure-requires : goal.add_failure-requires
add_failure-requires c =
    let all = linked c.args.count c.args.seed c.new-draw.result c.add_tree.new.draw c.add_tree.new.script c.add_links.new.script c.new-draw.ensures c.in_ok-add_tree.ensures.links c.in_ok-add_tree.ensures.seed c.in_ok-add_links.ensures in
    let hosts = with_hosts c.args.count _ c.add_links.new.script c.add_hosts.new.script all c.in_ok-add_hosts.ensures in
    let sent = more_made c.args.count _ [] (sends_at c.args.count 10) c.add_hosts.new.script c.add_sends.new.script hosts c.in_ok-add_sends.ensures in
    record {
      made = is_made c.args.count _ (sends_at c.args.count 10) c.add_sends.new.script sent;
      can = may_send c.args.count 20 _ (sends_at c.args.count 10) c.add_sends.new.script sent (sent_once c.args.count c.requires.most);
      first = has_first c.args.seed c.args.count (sends_at c.args.count 10) c.add_sends.new.script sent;
    }

pub add_sends-requires-2 : goal.add_sends-requires-2
add_sends-requires-2 c =
    let all = linked c.args.count c.args.seed c.new-draw.result c.add_tree.new.draw c.add_tree.new.script c.add_links.new.script c.new-draw.ensures c.in_ok-add_tree.ensures.links c.in_ok-add_tree.ensures.seed c.in_ok-add_links.ensures in
    let hosts = with_hosts c.args.count _ c.add_links.new.script c.add_hosts.new.script all c.in_ok-add_hosts.ensures in
    let sent = more_made c.args.count _ [] (sends_at c.args.count 10) c.add_hosts.new.script c.add_sends.new.script hosts c.in_ok-add_sends.ensures in
    let failed = more_made c.args.count _ (sends_at c.args.count 10) (failure c.args.count) c.add_sends.new.script c.add_failure.new.script sent c.in_ok-add_failure.ensures in
    record {
      made = is_made c.args.count _ (sends_at c.args.count 10 ++ failure c.args.count) c.add_failure.new.script failed;
      most = c.requires.most;
      can = may_send c.args.count 80 _ (sends_at c.args.count 10 ++ failure c.args.count) c.add_failure.new.script failed (failed_once c.args.count c.requires.most);
    }

pub returns : goal.returns
returns c =
    let all = linked c.args.count c.args.seed c.new-draw.result c.add_tree.new.draw c.add_tree.new.script c.add_links.new.script c.new-draw.ensures c.in_ok-add_tree.ensures.links c.in_ok-add_tree.ensures.seed c.in_ok-add_links.ensures in
    let hosts = with_hosts c.args.count _ c.add_links.new.script c.add_hosts.new.script all c.in_ok-add_hosts.ensures in
    let sent = more_made c.args.count _ [] (sends_at c.args.count 10) c.add_hosts.new.script c.add_sends.new.script hosts c.in_ok-add_sends.ensures in
    let failed = more_made c.args.count _ (sends_at c.args.count 10) (failure c.args.count) c.add_sends.new.script c.add_failure.new.script sent c.in_ok-add_failure.ensures in
    on_ok_weaker c.add_sends-2.result
    (λ sends. whole c.args.seed c.args.count c.add_sends-2.new.script (more_made c.args.count _ (sends_at c.args.count 10 ++ failure c.args.count) (sends_at c.args.count 80) c.add_failure.new.script c.add_sends-2.new.script failed sends))
    c.add_sends-2.ensures
