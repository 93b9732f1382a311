mod TestResults
