use Rattle.appended_stats.proofs.Groups.{key_added}
use Rattle.appended_stats.proofs.rest.add_key.Goals as goal

pub returns : goal.returns
returns c =
    key_added c.args.groups.now c.replace-keys.new.self c.replace.new.self c.args.place c.args.key c.new.result c.replace-keys.result c.push.new.self c.replace-keys.ensures.old
    c.replace-keys.ensures.new c.in_ok-push.ensures.ok c.replace.ensures.new
